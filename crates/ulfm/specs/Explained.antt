-- How a trace was explained, behind an exit status.
use Rattle.std.specs.Prelude.{◌≡◌, ◌⊎◌, ℕ, List}
use Rattle.std.specs.Io.KnownBytes.{Keeps}
use Rattle.ulfm_explain.specs.Explained.{ExplainsText}
use Rattle.ulfm_filters.specs.Statuses.{PrintsAt, verdict_status}
use Rattle.ulfm_script.specs.Ends.{KnownText}
use Rattle.ulfm_trace.specs.declared.verdict.Verdict.{Verdict}

-- A trace was judged and explained, and the status is its verdict's; all of it was printed, or at 3 a beginning of it.
pub record Told (known old new : KnownText) (status : ℕ) : Type 0 where
  pub verdict : Verdict
  pub shown : List ℕ
  pub explained : ExplainsText known verdict shown
  pub printed : PrintsAt (verdict_status verdict) shown old new status

-- a trace was explained; or nothing was printed, at 1 where the trace has too many lines, and else at 3
abbrev pub ExplainedWith : KnownText → KnownText → KnownText → ℕ → Type 0
ExplainedWith known old new status = Told known old new status ⊎ (((status ≡ 1) ⊎ (status ≡ 3)) × Keeps old new)
