-- What is kept of rounds that have decided.
use Rattle.std.specs.Prelude.{◌≡◌, ℕ, nat_le, nat_lt, true, List, filter, filter_map, length, take, Option, Some, is_some}
use Rattle.std.specs.{HashMap.{HashMap, get}, List.{list_all}}
use Rattle.ulfm_model.specs.declared.contribution.Slot.{Slot}
use Rattle.ulfm_model.specs.History.{decided_by, has, known_of, same_place}
use Rattle.ulfm_model.specs.Walked.{decision_of}
use Rattle.ulfm_numbers.specs.{declared.cells.Cell.{Cell}, declared.grids.Grid.{Grid}, declared.rounds.Done.{Done}}
use Rattle.ulfm_numbers.specs.{Cells.{told_at}, Groups.{group_at}, Numbers.{by_then}}

-- what settles these members of a round at a point
abbrev pub settled_then : {P A : Type 0} → Grid (Cell P) A → ℕ → ℕ → ℕ → ℕ → Option (Slot P)
settled_then slots c k point r = by_then point (told_at slots (c, k, r))

-- what settles a place stays
abbrev pub KeepsSlots : {P A : Type 0} → Grid (Cell P) A → Grid (Cell P) A → Type 0
KeepsSlots {P} old new = (place : ℕ × ℕ × ℕ) (at : ℕ × Slot P) → told_at old place ≡ Some at → told_at new place ≡ Some at

-- who of a communicator is among these failures
abbrev pub failed_of : List (List ℕ) → List ℕ → ℕ → List ℕ
failed_of groups failures c = filter (has (group_at groups c)) failures

-- A round has decided since a point: each member was settled then; what settles them knows no more failures of the communicator than there were then, so
-- many; and they decide what is kept.
abbrev pub IsDone : {P A B : Type 0} → (P → P → P) → Grid (Cell P) B → List ℕ → List (List ℕ) → ℕ → ℕ → Done P A → Type 0
IsDone meld slots failures groups c k done =
    let settled = filter_map (settled_then slots c k done.since) (group_at groups c) in
    (nat_lt c (length groups) ≡ true)
    × (list_all (λ r. is_some (settled_then slots c k done.since r)) (group_at groups c) ≡ true)
    × (list_all (λ s. nat_le (known_of s) done.failed) settled ≡ true)
    × (nat_le done.failed (length (failed_of groups failures c)) ≡ true)
    × (decision_of done.made ≡ decided_by meld (take done.failed (failed_of groups failures c)) settled)

-- and so has each round that is kept
abbrev pub AreDone : {P A B T : Type 0} → (P → P → P) → HashMap (ℕ × ℕ × ℕ) (Done P A) T → Grid (Cell P) B → List ℕ → List (List ℕ) → Type 0
AreDone {P} {A} meld rounds slots failures groups =
    (c k : ℕ) (done : Done P A) → get same_place rounds (c, k, 0) ≡ Some done → IsDone meld slots failures groups c k done

-- a table by communicator and round: it has nothing at any rank but 0
abbrev pub IsByRound : {V S : Type 0} → HashMap (ℕ × ℕ × ℕ) V S → Type 0
IsByRound {V} table = (place : ℕ × ℕ × ℕ) (value : V) → get same_place table place ≡ Some value → place.2 ≡ 0
