use Rattle.std.proofs.Common.{rules}
use Rattle.ulfm_comm.proofs.Begins.{begins_few, begins_few_also}
use Rattle.ulfm_comm.proofs.rank.LocalState.begin.Goals as goal

pub returns-clause-asked : goal.returns-clause-asked
returns-clause-asked g c = search rules steps 100000

pub returns-clause-bounded : goal.returns-clause-bounded
returns-clause-bounded g c = rw c.first.ensures (begins_few c.args.self.now c.args.asked)

pub returns-clause-also : goal.returns-clause-also
returns-clause-also g c = rw c.first.ensures (begins_few_also c.args.self.now c.args.asked c.allocator.ensures.in_range.some_comms)
