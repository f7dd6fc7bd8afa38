use Rattle.std.proofs.Common.{rules}
use Rattle.ulfm_laws.proofs.summary.BodyMeld.unit.Goals as goal

pub returns : goal.returns
returns g c = search rules steps 100000
