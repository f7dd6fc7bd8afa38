use Rattle.ulfm_model.proofs.Stable.{fits_stays}
use Rattle.ulfm_model.proofs.laws.records_stay.Goals as goal

pub returns : goal.returns
returns g c = fits_stays g.P.Meld.meld
