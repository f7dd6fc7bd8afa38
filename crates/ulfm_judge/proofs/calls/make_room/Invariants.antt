use Rattle.std.proofs.Common.{◌≡◌, ◌≤◌, List, length, max}
use Rattle.ulfm_model.specs.Traces.{Under}
use Rattle.ulfm_judge.specs.Kept.{AreCalls}
use Rattle.ulfm_judge.proofs.calls.make_room.Given as goal

abbrev pub invariant-room : goal.invariant-room
invariant-room g l = (l._place ≡ length l.calls.items) × (length l.calls.items ≤ max (length l.initial.calls.items) l.fn.count) × ((us : List (Under g.row.P.Denot)) → AreCalls l.initial.calls.items us → AreCalls l.calls.items us)
