use Rattle.ulfm_model.proofs.Staying.{replies_last}
use Rattle.ulfm_model.proofs.rounds.replies_stay.Goals as goal

pub returns : goal.returns
returns g c = replies_last g.P.Meld.meld
