use Rattle.std.proofs.Common.{rules}
use Rattle.ulfm_comm.proofs.phases.exchange.contribution.Goals as goal

pub returns-clause-known : goal.returns-clause-known
returns-clause-known g c = search rules steps 100000
