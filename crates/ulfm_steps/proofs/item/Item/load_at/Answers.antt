use Rattle.std.proofs.Common.{sym, ◌∙◌, arith}
use Rattle.ulfm_steps.proofs.Appending.{comm_stands, failure_stands, no_comm, no_failure}
use Rattle.ulfm_steps.proofs.item.Item.load_at.Goals as goal

pub load_failure-requires-clause-within : goal.load_failure-requires-clause-within
load_failure-requires-clause-within g c = rw c.in-Failure.is at c.requires.within

pub load_comm-requires-clause-within : goal.load_comm-requires-clause-within
load_comm-requires-clause-within g c = let lt = rw c.in-Comm.is at c.requires.within in omega (arith, lt)

pub returns-in-None-clause-loads : goal.returns-in-None-clause-loads
returns-in-None-clause-loads g c = rw c.in-Failure.is c.load_failure.ensures.loads

pub returns-in-None-clause-stands : goal.returns-in-None-clause-stands
returns-in-None-clause-stands g c =
    rw c.in-Failure.is (sym (no_failure (g.W.Words.sight c.load_failure.new.pass).seen c.args.index c.in-Failure.rank (sym c.load_failure.ensures.rank ∙ c.in-None.is)))

pub returns-in-Some-clause-loads : goal.returns-in-Some-clause-loads
returns-in-Some-clause-loads g c = rw c.in-Failure.is c.load_failure.ensures.loads

pub returns-in-Some-clause-stands : goal.returns-in-Some-clause-stands
returns-in-Some-clause-stands g c =
    rw c.in-Failure.is (sym (failure_stands (g.W.Words.sight c.load_failure.new.pass).seen c.args.index c.in-Some.rank c.in-Failure.rank (sym c.load_failure.ensures.rank ∙ c.in-Some.is)))

pub returns-in-None-load_comm-clause-loads : goal.returns-in-None-load_comm-clause-loads
returns-in-None-load_comm-clause-loads g c = rw c.in-Comm.is c.load_comm.ensures.loads

pub returns-in-None-load_comm-clause-stands : goal.returns-in-None-load_comm-clause-stands
returns-in-None-load_comm-clause-stands g c =
    rw c.in-Comm.is (sym (no_comm (g.W.Words.sight c.load_comm.new.pass).seen c.args.index c.in-Comm.parent c.in-Comm.round (sym c.load_comm.ensures.made ∙ c.in-None-load_comm.is)))

pub returns-in-Some-load_comm-clause-loads : goal.returns-in-Some-load_comm-clause-loads
returns-in-Some-load_comm-clause-loads g c = rw c.in-Comm.is c.load_comm.ensures.loads

pub returns-in-Some-load_comm-clause-stands : goal.returns-in-Some-load_comm-clause-stands
returns-in-Some-load_comm-clause-stands g c =
    rw c.in-Comm.is (sym (comm_stands (g.W.Words.sight c.load_comm.new.pass).seen c.args.index c.in-Some-load_comm.parent c.in-Some-load_comm.round c.in-Comm.parent c.in-Comm.round (sym c.load_comm.ensures.made ∙ c.in-Some-load_comm.is)))
