use Rattle.ulfm_model.proofs.Once.{happens_once}
use Rattle.ulfm_model.proofs.laws.events_happen_once.Goals as goal

pub returns : goal.returns
returns g c = happens_once g.P.Meld.meld
