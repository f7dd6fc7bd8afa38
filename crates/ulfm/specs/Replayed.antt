-- How a stored log was told, behind an exit status.
use Rattle.std.specs.Prelude.{◌≡◌, ◌⊎◌, ℕ, List}
use Rattle.std.specs.Io.KnownBytes.{Keeps}
use Rattle.ulfm_audit.specs.Audits.{AuditsText}
use Rattle.ulfm_filters.specs.Statuses.{PrintsWhole}
use Rattle.ulfm_script.specs.Ends.{KnownText}

-- The history of a log was told, and all of it was printed, or at 3 a beginning of it.
pub record Replayed (known old new : KnownText) (status : ℕ) : Type 0 where
  pub shown : List ℕ
  pub audited : AuditsText known shown
  pub printed : PrintsWhole shown old new status

-- a log was told; or nothing was printed, at 1 where it is none, and else at 3
abbrev pub ReplayedWith : KnownText → KnownText → KnownText → ℕ → Type 0
ReplayedWith known old new status = Replayed known old new status ⊎ (((status ≡ 1) ⊎ (status ≡ 3)) × Keeps old new)
