use Rattle.std.proofs.Common.{refl}
use Rattle.ulfm_comm.proofs.Proposals.{mark_is}
use Rattle.ulfm_comm.proofs.rank.LocalState.marked_by.Goals as goal

pub returns : goal.returns
returns g c = mark_is c.args.marks.now.comm c.args.marks.now.round c.args.marks.now.next c.args.marks.now.known c.failures.result.now c.args.self.now.seen _ c.failures.ensures refl
