use Rattle.ulfm_model.proofs.Telling.{self_failed}
use Rattle.ulfm_model.proofs.rounds.self_failed_is_declared.Goals as goal

pub returns : goal.returns
returns g c = self_failed g.P.Meld.meld
