use Rattle.std.proofs.Common.{[], append-nil}
use Rattle.ulfm_steps.proofs.Reading.{world_round}
use Rattle.ulfm_steps_tests.proofs.tests.stepped.look_and_mark.Goals as goal

pub mark-requires-clause-may : goal.mark-requires-clause-may
mark-requires-clause-may g c =
    record {
      round = rw c.requires.group (world_round (g.W.Words.name c.args.words.now).limits (g.W.Words.sight c.look.new.pass).seen 0 c.requires.rounds);
      begins = rw (c.deref.ensures.value, c.look.ensures.found) ([], append-nil _);
    }
