use Rattle.std.proofs.Common.{arith}
use Rattle.ulfm_steps.proofs.Coming.{world_place}
use Rattle.ulfm_steps_tests.proofs.tests.finished.give.Goals as goal

pub spread-requires-clause-may : goal.spread-requires-clause-may
spread-requires-clause-may g c =
    record { place = world_place g.P.Meld.meld c.args.words.now.plain.limits c.args.pass.now.plain.seen 0 c.args.rank c.requires.rounds c.requires.there; known = omega arith }

pub step-requires-clause-may : goal.step-requires-clause-may
step-requires-clause-may g c =
    record { place = world_place g.P.Meld.meld c.args.words.now.plain.limits c.spread.new.pass.plain.seen 0 c.args.rank c.requires.rounds c.requires.there; known = omega arith }
