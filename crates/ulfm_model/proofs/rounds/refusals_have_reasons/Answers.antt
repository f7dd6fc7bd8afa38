use Rattle.ulfm_model.proofs.Refusing.{polls_refused, starts_refused}
use Rattle.ulfm_model.proofs.rounds.refusals_have_reasons.Goals as goal

pub returns : goal.returns
returns g c = record { start = starts_refused g.P.Meld.meld; poll = polls_refused g.P.Meld.meld }
