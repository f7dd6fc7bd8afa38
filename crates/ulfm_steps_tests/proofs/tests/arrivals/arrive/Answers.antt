use Rattle.ulfm_steps.proofs.Coming.{world_place}
use Rattle.ulfm_steps_tests.proofs.tests.arrivals.arrive.Goals as goal

pub set_arrival-requires-clause-may : goal.set_arrival-requires-clause-may
set_arrival-requires-clause-may g c = λ more begins legal none. (world_place g.P.Meld.meld (g.W.Words.name c.args.words.now).limits more 0 c.args.rank c.requires.rounds c.requires.there, none)
