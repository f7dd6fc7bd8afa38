-- How a log of calls and replies was judged, behind an exit status.
use Rattle.std.specs.Prelude.{◌≡◌, ◌⊎◌, ℕ, Bool}
use Rattle.std.specs.Io.KnownBytes.{Keeps}
use Rattle.ulfm_filters.specs.Statuses.{PrintsAt}
use Rattle.ulfm_script.specs.Ends.{KnownText}
use Rattle.ulfm_search.specs.declared.observing.Shown.{Shown}
use Rattle.ulfm_search.specs.Shown.{Observes}

-- A log was judged, and the status is that of the answer; all of it was printed, or at 3 a beginning of it.
pub record Observed (A : Type 0) (witness : Bool) (known old new : KnownText) (status : ℕ) : Type 0 where
  pub shown : Shown A
  pub observed : Observes known witness shown
  pub printed : PrintsAt shown.status shown.text.items old new status

-- a log was judged; or nothing was printed, at 1 where it is none, and else at 3
abbrev pub ObservedWith : Type 0 → Bool → KnownText → KnownText → KnownText → ℕ → Type 0
ObservedWith A witness known old new status = Observed A witness known old new status ⊎ (((status ≡ 1) ⊎ (status ≡ 3)) × Keeps old new)
