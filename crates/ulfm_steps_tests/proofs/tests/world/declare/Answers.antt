use Rattle.ulfm_steps.proofs.Coming.{may_fail}
use Rattle.ulfm_steps_tests.proofs.tests.world.declare.Goals as goal

pub finish-requires-clause-may : goal.finish-requires-clause-may
finish-requires-clause-may g c = rw c.new.ensures (may_fail g.P.Meld.meld (g.W.Words.name c.args.words.now).limits (g.W.Words.sight c.args.pass.now).seen c.args.rank c.requires.there)
