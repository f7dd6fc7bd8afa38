use Rattle.std.proofs.Common.{arith, nat_le}
use Rattle.std.proofs.lemmas.List.Filters.{length-filter_more}
use Rattle.ulfm_steps.proofs.group.count_up_to.Goals as goal

pub loop-rank-preserved : goal.loop-rank-preserved
loop-rank-preserved c =
    let more = length-filter_more (λ rank. nat_le rank c.args.last) c.args.ranks.now c.loop-rank.rank-index 0 c.loop-rank-test.true in
    record { counted = grind (arith, more); few = grind arith }
