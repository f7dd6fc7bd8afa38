use Rattle.std.proofs.Common.{arith}
use Rattle.ulfm_observed.proofs.Ranked.{bound_stays}
use Rattle.ulfm_observed.proofs.ranks.ranks_in.Goals as goal

pub loop-line-preserved : goal.loop-line-preserved
loop-line-preserved g c =
    bound_stays c.args.lines.now c.loop-line.line-index c.loop-line.bound c.in-Some.next c.line-item.result (omega (arith, c.loop-line-test.true))
    c.line-item.is c.in-Some.ensures.grows c.in-Some.ensures.above c.loop-line.invariant
