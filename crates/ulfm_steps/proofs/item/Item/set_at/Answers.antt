use Rattle.ulfm_steps.proofs.Appending.{comm_may, comm_stands, failure_stands}
use Rattle.ulfm_steps.proofs.item.Item.set_at.Goals as goal

pub set_comm-requires-clause-may : goal.set_comm-requires-clause-may
set_comm-requires-clause-may g c =
    let may = rw c.in-Comm.is at c.requires.may in
    comm_may g.P.Meld.meld (g.W.Words.name c.args.words.now).limits (g.W.Words.sight c.args.pass.now).seen c.in-Comm.parent c.in-Comm.round c.args.index may

pub returns-in-Ok-clause-stands : goal.returns-in-Ok-clause-stands
returns-in-Ok-clause-stands g c = rw c.in-Failure.is (failure_stands (g.W.Words.sight c.set_failure.new.pass).seen c.args.index c.in-Failure.rank c.in-Failure.rank c.in-Ok.ensures.stands)

pub returns-in-Err-clause-stands : goal.returns-in-Err-clause-stands
returns-in-Err-clause-stands g c = rw c.in-Failure.is (failure_stands (g.W.Words.sight c.set_failure.new.pass).seen c.args.index c.in-Err.rank c.in-Failure.rank c.in-Err.ensures.stands)

pub returns-in-Ok-set_comm-clause-stands : goal.returns-in-Ok-set_comm-clause-stands
returns-in-Ok-set_comm-clause-stands g c = rw c.in-Comm.is (comm_stands (g.W.Words.sight c.set_comm.new.pass).seen c.args.index c.in-Comm.parent c.in-Comm.round c.in-Comm.parent c.in-Comm.round c.in-Ok-set_comm.ensures.stands)

pub returns-in-Err-set_comm-clause-stands : goal.returns-in-Err-set_comm-clause-stands
returns-in-Err-set_comm-clause-stands g c = rw c.in-Comm.is (comm_stands (g.W.Words.sight c.set_comm.new.pass).seen c.args.index c.in-Err-set_comm.parent c.in-Err-set_comm.round c.in-Comm.parent c.in-Comm.round c.in-Err-set_comm.ensures.stands)
