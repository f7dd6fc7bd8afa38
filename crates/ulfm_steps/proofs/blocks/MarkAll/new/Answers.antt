use Rattle.std.proofs.Common.{rules}
use Rattle.ulfm_steps.proofs.blocks.MarkAll.new.Goals as goal

pub returns-clause-at : goal.returns-clause-at
returns-clause-at c = search rules steps 100000
