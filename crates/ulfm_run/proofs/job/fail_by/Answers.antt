use Rattle.ulfm_model.specs.declared.reply.Reply.TheVariants.{AlreadyFailed, Declared, Refused}
use Rattle.ulfm_words.specs.Steps.{over}
use Rattle.ulfm_comm.specs.Counts.{records_of}
use Rattle.ulfm_run.proofs.Jobs.{fails_step}
use Rattle.ulfm_run.proofs.job.fail_by.Goals as goal

pub returns-in-Ok-true-clause-step : goal.returns-in-Ok-true-clause-step
returns-in-Ok-true-clause-step g c =
    fails_step g.P.Meld.meld g.W.Words.alone (over g.P.Packed.pack c.args.world.now) (g.W.Words.sight c.args.pass.now)
    (records_of c.args.ranks.now) c.requires c.args.rank (Declared) (g.W.Words.sight c.fail.new.pass) (rw c.in-Ok-true.field-0-test at c.in-Ok-true.ensures)

pub returns-in-Ok-false-clause-step : goal.returns-in-Ok-false-clause-step
returns-in-Ok-false-clause-step g c =
    fails_step g.P.Meld.meld g.W.Words.alone (over g.P.Packed.pack c.args.world.now) (g.W.Words.sight c.args.pass.now)
    (records_of c.args.ranks.now) c.requires c.args.rank (AlreadyFailed) (g.W.Words.sight c.fail.new.pass)
    (rw c.in-Ok-false.field-0-test at c.in-Ok-false.ensures)

pub returns-in-Err-clause-step : goal.returns-in-Err-clause-step
returns-in-Err-clause-step g c =
    fails_step g.P.Meld.meld g.W.Words.alone (over g.P.Packed.pack c.args.world.now) (g.W.Words.sight c.args.pass.now)
    (records_of c.args.ranks.now) c.requires c.args.rank (Refused c.in-Err.refusal) (g.W.Words.sight c.fail.new.pass) c.in-Err.ensures
