use Rattle.std.proofs.Common.{rules}
use Rattle.ulfm_steps.proofs.group.first_ranks.Goals as goal

pub loop-rank-preserved : goal.loop-rank-preserved
loop-rank-preserved g c = search rules steps 2000000
