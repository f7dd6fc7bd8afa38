use Rattle.std.proofs.Common.{rules}
use Rattle.ulfm_model.proofs.event.EventClone.clone.Goals as goal

pub returns : goal.returns
returns g c = search rules steps 100000
