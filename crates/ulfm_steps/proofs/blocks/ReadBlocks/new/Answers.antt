use Rattle.std.proofs.Common.{arith}
use Rattle.ulfm_model.proofs.Blocks.{width_is}
use Rattle.ulfm_steps.proofs.blocks.ReadBlocks.new.Goals as goal

pub overflow_sub-side : goal.overflow_sub-side
overflow_sub-side g c = let w = width_is c.args.members in omega (arith, w.0, c.width-width.ensures)
