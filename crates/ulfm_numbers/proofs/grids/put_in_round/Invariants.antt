use Rattle.std.proofs.Common.{◌≡◌, ℕ, length}
use Rattle.ulfm_numbers.specs.Grids.{in_round}
use Rattle.ulfm_numbers.proofs.grids.put_in_round.Given as goal

abbrev pub invariant-room : goal.invariant-room
invariant-room g l = (l._place ≡ length l.ranks.items) × ((r : ℕ) → in_round l.initial.empty l.ranks r ≡ in_round l.initial.empty l.initial.ranks r)
