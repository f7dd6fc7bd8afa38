-- The failed groups of communicators, and where their failures stand among all.
use Rattle.std.specs.Prelude.{◌≡◌, ℕ, if◌then◌else◌, List, filter, map, Option, Some, None}
use Rattle.std.specs.Arc.{arc_slice_items}
use Rattle.ulfm_model.specs.History.{has}
use Rattle.ulfm_numbers.specs.declared.groups.Group.{Group}
use Rattle.ulfm_numbers.specs.Numbers.{numbers_from}

-- a rank, where it is in a group
abbrev pub in_group : List ℕ → ℕ → Option ℕ
in_group group r = if has group r then Some r else None

-- the members
abbrev pub members_of : {A : Type 0} → Group A → List ℕ
members_of group = arc_slice_items group.members

-- the failures of a group that are kept, and where they stand among all
abbrev pub failed_kept : {A : Type 0} → Group A → List ℕ × List ℕ
failed_kept group = (group.failed.items, group.places.items)

-- those there are, where these are declared
abbrev pub failed_told : {A : Type 0} → List ℕ → Group A → List ℕ × List ℕ
failed_told failures group = (filter (has (members_of group)) failures, numbers_from (in_group (members_of group)) 0 failures)

-- the failed group is that of the members, where these are declared
abbrev pub IsFailed : {A : Type 0} → List ℕ → Group A → Type 0
IsFailed failures group = failed_kept group ≡ failed_told failures group

-- and so it is of each group
abbrev pub AreFailed : {A : Type 0} → List ℕ → List (Group A) → Type 0
AreFailed failures groups = map failed_kept groups ≡ map (failed_told failures) groups
