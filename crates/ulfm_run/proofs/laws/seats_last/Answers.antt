use Rattle.ulfm_run.proofs.Others.{sits_lasts}
use Rattle.ulfm_run.proofs.laws.seats_last.Goals as goal

pub returns : goal.returns
returns g c = sits_lasts g.P.Meld.meld
