use Rattle.ulfm_model.proofs.Contexts.{offered_where}
use Rattle.ulfm_model.proofs.laws.unheld_ids_are_offered.Goals as goal

pub returns : goal.returns
returns g c = offered_where g.P.Meld.meld
