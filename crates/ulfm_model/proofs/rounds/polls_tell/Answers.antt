use Rattle.ulfm_model.proofs.Telling.{agree_tells, shrink_tells}
use Rattle.ulfm_model.proofs.rounds.polls_tell.Goals as goal

pub returns : goal.returns
returns g c = record { agree = agree_tells g.P.Meld.meld; shrink = shrink_tells g.P.Meld.meld }
