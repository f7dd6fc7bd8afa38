-- How far a machine takes the calls of its ranks.
use Rattle.std.specs.Prelude.{◌≡◌, ◌⊎◌, ℕ, ◌+◌, ◌≤◌, ⊤, Option, Some, None}
use Rattle.ulfm_model.specs.declared.step_name.StepName.{StepName}
use Rattle.ulfm_model.specs.declared.step_line.StepLine.TheVariants.{Before, Called, Finished, Stepped}
use Rattle.ulfm_lines.specs.{StepLines.{ScriptStep}, Walked.{IsCountOf}}
use Rattle.ulfm_lines.specs.declared.step_machine.Reach.{Reach}

-- how many atomic steps a machine has made, and the name of the next one of each rank's call, if one is under way
pub record Progress : Type 0 where
  pub steps : ℕ
  pub next : ℕ → Option StepName

-- a call was taken as far as is said: so many steps were made, or its next step has the name
abbrev pub IsReached : Reach → ℕ → Option StepName → Type 0
IsReached reach made next = (reach.most ≡ Some made) ⊎ ((name : StepName) × (reach.name ≡ Some name) × (next ≡ Some name))

-- Steps of rank r's call were made, no more than may be, and counted. Then the call is over, or none was under way; or it was taken as far as is said.
pub record GoesFar (old new : Progress) (r : ℕ) (reach : Reach) (made : ℕ) : Type 0 where
  pub count : ℕ
  pub counted : IsCountOf count made
  pub within : (most : ℕ) → reach.most ≡ Some most → count ≤ most
  pub steps : new.steps ≡ old.steps + count
  pub stops : (new.next r ≡ None) ⊎ IsReached reach made (new.next r)

-- A script's line takes its rank's call as far as it says: then the call is over, or none was under way; or so many steps were made, or the next one
-- has the name. The line of a call that begins makes no step.
abbrev pub GoesAsSaid : Progress → Progress → ScriptStep → Type 0
GoesAsSaid old new (Called asked padded) = new.steps ≡ old.steps
GoesAsSaid old new (Stepped r count) = (new.steps ≤ old.steps + count) × ((new.next r ≡ None) ⊎ (new.steps ≡ old.steps + count))
GoesAsSaid old new (Before r name) = (new.next r ≡ None) ⊎ (new.next r ≡ Some name)
GoesAsSaid old new (Finished r) = new.next r ≡ None
GoesAsSaid old new _ = ⊤
