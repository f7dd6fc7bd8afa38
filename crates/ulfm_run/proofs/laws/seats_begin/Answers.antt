use Rattle.ulfm_run.proofs.Newly.{sits_new}
use Rattle.ulfm_run.proofs.laws.seats_begin.Goals as goal

pub returns : goal.returns
returns g c = sits_new g.P.Meld.meld
