use Rattle.std.proofs.Common.{◌≡◌, ℕ, length}
use Rattle.ulfm_numbers.specs.Grids.{in_rounds}
use Rattle.ulfm_numbers.proofs.grids.put_in_rounds.Given as goal

abbrev pub invariant-room : goal.invariant-room
invariant-room g l = (l._place ≡ length l.rounds.items) × ((k r : ℕ) → in_rounds l.initial.empty l.rounds k r ≡ in_rounds l.initial.empty l.initial.rounds k r)
