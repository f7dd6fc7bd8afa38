use Rattle.std.proofs.Common.{refl, arith}
use Rattle.ulfm_model.specs.History.{failures}
use Rattle.ulfm_steps_tests.proofs.tests.stepped.look.Goals as goal

pub loop-look-init : goal.loop-look-init
loop-look-init g c =
    let e = c.new-look.ensures in
    record {
      of = c.requires.of;
      room = omega (arith, c.requires.room, e.room);
      kept = omega arith;
      look = rw (e.going, e.found) ((failures (g.W.Words.sight c.args.pass.now).seen, refl), omega (arith, c.requires.of.may_open.in_range.ranks));
    }
