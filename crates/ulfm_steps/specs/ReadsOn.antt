-- Reading on in the list of failures, until so many members of a group are among those that were seen.
use Rattle.std.specs.Prelude.{◌≡◌, ℕ, ◌-◌, ◌<◌, ◌≤◌, Bool, true, List, filter, length, take}
use Rattle.std.specs.List.Sorted.{IsStrictlyIncreasing}
use mathlib.Core.List.{IsPrefix}
use Rattle.ulfm_model.specs.{History.{has}, declared.limits.Limits.{Limits}, declared.place.Place.TheVariants.{List as ListAt}}
use Rattle.ulfm_words.specs.Steps.{Sight, View}
use Rattle.ulfm_steps.specs.{Turns.{TakesFirst}, declared.read_on.ReadOn.{ReadOn}}

-- of the list of failures this beginning was seen, and the list has so many members of the group
pub record MayReadOn (group : List ℕ) (count : ℕ) (seen whole : List ℕ) : Type 0 where
  pub rises : IsStrictlyIncreasing group
  pub begins : IsPrefix seen whole
  pub enough : count ≤ length (filter (has group) whole)

-- The first of the failures that were seen, as many as were gone through, have as many members of the group as were found, and no
-- more than are looked for; where fewer were found, all that were seen were gone through.
pub record AtFailure (group : List ℕ) (count : ℕ) (at : ReadOn) (seen : List ℕ) : Type 0 where
  pub within : at.reach ≤ length seen
  pub counted : at.found ≡ length (filter (has group) (take at.reach seen))
  pub few : at.found ≤ count
  pub all : at.found < count → at.reach ≡ length seen

-- A longer beginning of the list was seen, and its first ranks, so many as reached, have just so many members of the group.
pub record ReadsOn (group : List ℕ) (count : ℕ) (old new whole : List ℕ) (reach : ℕ) : Type 0 where
  pub goes_on : IsPrefix old new
  pub begins : IsPrefix new whole
  pub within : reach ≤ length new
  pub counted : length (filter (has group) (take reach new)) ≡ count

-- the loads of a reading on, the first of them of the place past what was seen: one at most for each rank that wasn't
abbrev pub ReadOnTakes : {P : Type 0} → Bool → Limits → List ℕ → List ℕ → Sight P → Sight P → Type 0
ReadOnTakes whole limits seen new = TakesFirst whole (ListAt (length seen)) true (limits.ranks - length seen) (limits.ranks - length new)

-- the loads of a reading on, which lead from one view to another
abbrev pub ReadOnTakesIn : {P : Type 0} → Bool → List ℕ → List ℕ → View P → View P → Type 0
ReadOnTakesIn whole seen new before after = ReadOnTakes whole before.words.limits seen new before.pass after.pass
