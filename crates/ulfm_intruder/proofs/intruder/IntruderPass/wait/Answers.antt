use Rattle.std.proofs.Common.{rules}
use Rattle.ulfm_intruder.proofs.intruder.IntruderPass.wait.Goals as goal

pub returns-clause-left : goal.returns-clause-left
returns-clause-left g c = search rules steps 100000
