use Rattle.ulfm_model.proofs.Telling.{pending_holds}
use Rattle.ulfm_model.proofs.rounds.pending_keeps.Goals as goal

pub returns : goal.returns
returns g c = pending_holds g.P.Meld.meld
