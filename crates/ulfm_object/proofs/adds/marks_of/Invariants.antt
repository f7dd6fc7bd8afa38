use Rattle.std.proofs.Common.{◌≡◌, take, filter_map}
use Rattle.std.specs.List.{enumerate_from}
use Rattle.ulfm_model.specs.Computed.{mark_of}
use Rattle.ulfm_object.proofs.adds.marks_of.Given as goal

abbrev pub invariant-loop-i : goal.invariant-loop-i
invariant-loop-i g l = l.marks.items ≡ filter_map (mark_of l.round.history.now l.round.comm l.round.number) (take l.i (enumerate_from 1 l.rank-items))
