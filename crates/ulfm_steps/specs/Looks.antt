-- What a look has found.
use Rattle.std.specs.Prelude.{◌≡◌, ℕ, ◌-◌, ◌<◌, Bool, false, true, List, length}
use mathlib.Core.List.{IsPrefix}
use Rattle.ulfm_model.specs.declared.{limits.Limits.{Limits}, place.Place.TheVariants.{List as ListAt}}
use Rattle.ulfm_words.specs.Steps.{Sight, View}
use Rattle.ulfm_steps.specs.Turns.{TakesFirst}
use Rattle.ulfm_model.specs.History.{History, failures}

-- under way it has found a beginning of the list, of fewer ranks than there are; at its end, the list
abbrev pub LookIs : {P : Type 0} → Limits → Bool → List ℕ → History P → Type 0
LookIs limits false found h = IsPrefix found (failures h) × (length found < limits.ranks)
LookIs limits true found h = found ≡ failures h

-- a look over a view is under way and has found these ranks, or has come to its end with them
abbrev pub LookIsIn : {P : Type 0} → View P → Bool → List ℕ → Type 0
LookIsIn view done found = LookIs view.words.limits done found view.pass.seen

-- how many loads a look may still make: one for each rank that it hasn't found. At its end: how many of them it has saved, which is one
-- less, since its last load found no rank, or else none is left.
abbrev pub looks_left : Limits → Bool → List ℕ → ℕ
looks_left limits false found = limits.ranks - length found
looks_left limits true found = limits.ranks - length found - 1

-- the loads of a look, the first of them of the place past what it had found
abbrev pub LookTakes : {P : Type 0} → Bool → Limits → List ℕ → Bool → List ℕ → Sight P → Sight P → Type 0
LookTakes whole limits found done new = TakesFirst whole (ListAt (length found)) true (looks_left limits false found) (looks_left limits done new)

-- the loads of a look, which lead from one view to another
abbrev pub LookTakesIn : {P : Type 0} → Bool → List ℕ → Bool → List ℕ → View P → View P → Type 0
LookTakesIn whole found done new before after = LookTakes whole before.words.limits found done new before.pass after.pass
