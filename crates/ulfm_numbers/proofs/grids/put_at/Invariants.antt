use Rattle.std.proofs.Common.{◌≡◌, ℕ, length}
use Rattle.ulfm_numbers.specs.Grids.{cell_at}
use Rattle.ulfm_numbers.proofs.grids.put_at.Given as goal

abbrev pub invariant-room : goal.invariant-room
invariant-room g l = (l._place ≡ length l.grid.comms.items) × ((q : ℕ × ℕ × ℕ) → cell_at l.initial.empty l.grid q ≡ cell_at l.initial.empty l.initial.grid q)
