use Rattle.std.proofs.Common.{◌≡◌, filter, take}
use Rattle.ulfm_model.specs.History.{has}
use Rattle.ulfm_run.proofs.seat.put_among.Given as goal

abbrev pub invariant-loop-rank : goal.invariant-loop-rank
invariant-loop-rank g l = l.group.items ≡ filter (has l.members) (take l.rank-index l.ranks)
