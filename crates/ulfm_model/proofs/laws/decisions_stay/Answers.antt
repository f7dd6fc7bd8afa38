use Rattle.ulfm_model.proofs.Decisions.{decision_stays}
use Rattle.ulfm_model.proofs.laws.decisions_stay.Goals as goal

pub returns : goal.returns
returns g c = decision_stays g.P.Meld.meld
