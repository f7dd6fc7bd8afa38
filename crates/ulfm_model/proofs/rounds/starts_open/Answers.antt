use Rattle.ulfm_model.proofs.Telling.{agree_opens, shrink_opens}
use Rattle.ulfm_model.proofs.rounds.starts_open.Goals as goal

pub returns : goal.returns
returns g c = record { agree = agree_opens g.P.Meld.meld; shrink = shrink_opens g.P.Meld.meld }
