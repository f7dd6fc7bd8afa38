use Rattle.std.proofs.Common.{◌≡◌, ◌∷◌, ◌++◌, [], List, ℕ, length, map}
use Rattle.ulfm_numbers.specs.Failed.{AreFailed, members_of}
use Rattle.ulfm_numbers.proofs.Failing.{AreDeclared}
use Rattle.ulfm_numbers.proofs.groups.declare_in_all.Given as goal

abbrev pub invariant-loop-group : goal.invariant-loop-group
invariant-loop-group g l =
    (map members_of l.groups ≡ map members_of l.initial.groups)
    × ((failures : List ℕ) → l.before ≡ length failures → AreFailed failures l.initial.groups → AreDeclared failures (failures ++ l.rank ∷ []) l.group-index l.groups)
