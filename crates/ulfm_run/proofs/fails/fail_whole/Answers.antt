use Rattle.ulfm_words.specs.Steps.{over}
use Rattle.ulfm_comm.specs.{Calls.{reply_of}, Fails.{declared}}
use Rattle.ulfm_run.proofs.FailsTold.{tells_fail}
use Rattle.ulfm_run.proofs.fails.fail_whole.Goals as goal

pub returns-clause-tells : goal.returns-clause-tells
returns-clause-tells g c =
    tells_fail g.P.Meld.meld (over g.P.Packed.pack c.args.world.now) c.args.rank c.args.pass.now (reply_of declared c.fail.result) c.fail.new.pass c.fail.ensures
