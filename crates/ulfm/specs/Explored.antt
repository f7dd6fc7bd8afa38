-- How a program of ranks was explored, behind an exit status.
use Rattle.std.specs.Prelude.{◌≡◌, ◌≤◌, ◌⊎◌, ◌==◌, ℕ, Bool, true, None, Some, List, if◌then◌else◌, unwrap_or}
use Rattle.std.specs.Io.KnownBytes.{Keeps}
use Rattle.ulfm_command.specs.declared.asked.ExploreOptions.{ExploreOptions}
use Rattle.ulfm_explore.specs.Shows.{IsShown, Tells}
use Rattle.ulfm_schedules.specs.declared.program.Program.{Program}
use Rattle.ulfm_filters.specs.Statuses.{PrintsAt}
use Rattle.ulfm_script.specs.Ends.{KnownText}

-- the exit status of an exploration: 0 where all schedules were tried, and else 4
abbrev pub whole_status : Bool → ℕ
whole_status is_whole = if is_whole then 0 else 4

-- the status of an exploration whose text was printed at this one
abbrev pub at_status : Bool → ℕ → ℕ
at_status is_whole status = if is_whole then status else (if status == 0 then 4 else status)

-- so many states there may be
abbrev pub most_states : ExploreOptions → ℕ
most_states options = unwrap_or options.most 5000000

-- A program was explored, and what was found was printed, or at 3 a beginning of it: outcomes, each of which was shown, and the answers that these give. Where
-- the script of one outcome was asked for, it is a script that shows an outcome. All schedules are said to have been tried only where no more states came up
-- than there may be.
pub record Explored {A : Type 0} (program : Program A) (options : ExploreOptions) (old new : KnownText) (status : ℕ) : Type 0 where
  pub text : List ℕ
  pub is_whole : Bool
  pub states : ℕ
  pub script : (number : ℕ) → options.outcome ≡ Some number → IsShown program text
  pub outcomes : options.outcome ≡ None → Tells program is_whole states text
  pub within : is_whole ≡ true → states ≤ most_states options
  pub printed : PrintsAt (whole_status is_whole) text old new status

-- a program was explored; or nothing was printed, at 1, 3 or 5
abbrev pub ExploredWith : Type 0 → ExploreOptions → KnownText → KnownText → ℕ → Type 0
ExploredWith A options old new status =
    ((program : Program A) × Explored program options old new status)
    ⊎ (((status ≡ 1) ⊎ ((status ≡ 3) ⊎ (status ≡ 5))) × Keeps old new)
