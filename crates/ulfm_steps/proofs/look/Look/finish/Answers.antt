use Rattle.std.proofs.Common.{rules}
use Rattle.ulfm_steps.proofs.look.Look.finish.Goals as goal

pub returns-clause-found : goal.returns-clause-found
returns-clause-found g c = search rules steps 100000
