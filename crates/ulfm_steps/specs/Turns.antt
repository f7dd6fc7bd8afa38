-- The steps that machines take, and how many are left.
use Rattle.std.specs.Prelude.{◌≡◌, ℕ, ◌+◌, ◌<◌, ◌≤◌, Bool, false, Option, Some, None, MatchOption}
use Rattle.ulfm_model.specs.declared.place.Place.{Place}
use Rattle.ulfm_words.specs.{Steps.{Sight, View}, declared.step.Site.{Site}}

-- one atomic step, at this site: a load, or an exchange
pub record IsStepAt {P : Type 0} (site : Site) (load : Bool) (old new : Sight P) : Type 0 where
  pub steps : new.steps ≡ old.steps + 1
  pub word : ℕ
  pub last : new.last ≡ Some (record { at = site; word = word; load = load })

-- .. at this place
abbrev pub IsOneStep : {P : Type 0} → Place → Bool → Sight P → Sight P → Type 0
IsOneStep place load old new = IsStepAt (Site.Place place) load old new

-- A machine's steps: one, at this site, or, where all are made at once, at least one. Those that were made and those that are left
-- then, at most, are no more than were left before.
pub record TakesAt {P : Type 0} (whole : Bool) (site : Site) (load : Bool) (before after : ℕ) (old new : Sight P) : Type 0 where
  pub one : whole ≡ false → IsStepAt site load old new
  pub some : old.steps < new.steps
  pub turns : new.steps + after ≤ old.steps + before

-- .. the first at this place
abbrev pub TakesFirst : {P : Type 0} → Bool → Place → Bool → ℕ → ℕ → Sight P → Sight P → Type 0
TakesFirst whole place load before after old new = TakesAt whole (Site.Place place) load before after old new

-- a machine between two steps: where it stands, and its caller's view
pub record Running (S P : Type 0) : Type 0 where
  pub state : S
  pub view : View P

abbrev pub running : {S P : Type 0} → S → View P → Running S P
running state view = record { state = state; view = view }

-- so many are left where there is no answer yet
abbrev pub left_without : {R : Type 0} → Option R → ℕ → ℕ
left_without None left = left
left_without (Some answer) left = 0

-- what holds where there is no answer yet
abbrev pub WhileOn : {R : Type 0} → Option R → Type 0 → Type 0
WhileOn answer Holds = MatchOption answer Holds (λ _. Unit {0})
