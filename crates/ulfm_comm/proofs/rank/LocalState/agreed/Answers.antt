use Rattle.std.proofs.Common.{rules}
use Rattle.ulfm_comm.proofs.rank.LocalState.agreed.Goals as goal

pub returns-clause-reply : goal.returns-clause-reply
returns-clause-reply g c = search rules steps 400000
