-- How a trace was drawn, behind an exit status.
use Rattle.std.specs.Prelude.{◌≡◌, ◌⊎◌, ℕ, if◌then◌else◌, List}
use Rattle.std.specs.Io.KnownBytes.{Keeps}
use Rattle.ulfm_command.specs.declared.asked.DrawOptions.{DrawOptions}
use Rattle.ulfm_draw.specs.declared.drawing.{Form.{Form}, Form.TheVariants.{Picture, Text}}
use Rattle.ulfm_draw.specs.declared.sheet.{Looks.{Looks}, Looks.TheVariants.{Ascii}}
use Rattle.ulfm_draw.specs.Drawings.{DrawsText}
use Rattle.ulfm_filters.specs.Statuses.{PrintsAt, verdict_status}
use Rattle.ulfm_script.specs.Ends.{KnownText}
use Rattle.ulfm_trace.specs.declared.verdict.Verdict.{Verdict}

-- how a trace is drawn by these options, on an output that has these looks
abbrev pub form_of : DrawOptions → Looks → Form
form_of options looks = if options.text then Text (if options.ascii then Ascii else looks) else Picture

-- A trace was drawn, and the status is its verdict's; all of the drawing was printed, or at 3 a beginning of it.
pub record Drew (form : Form) (known old new : KnownText) (status : ℕ) : Type 0 where
  pub verdict : Verdict
  pub shown : List ℕ
  pub drawn : DrawsText known form verdict shown
  pub printed : PrintsAt (verdict_status verdict) shown old new status

-- a trace was drawn; or nothing was printed, at 1 where the trace is too long, and else at 3
abbrev pub DrewWith : Form → KnownText → KnownText → KnownText → ℕ → Type 0
DrewWith form known old new status = Drew form known old new status ⊎ (((status ≡ 1) ⊎ (status ≡ 3)) × Keeps old new)
