use Rattle.std.proofs.Common.{rules}
use Rattle.ulfm_comm.proofs.rank.LocalState.number.Goals as goal

pub returns : goal.returns
returns g c = search rules steps 100000
