use Rattle.ulfm_model.proofs.Reasons.{one_reason}
use Rattle.ulfm_model.proofs.trace_laws.lines_have_one_reason.Goals as goal

pub returns : goal.returns
returns g c = λ now group line. one_reason g.P.Meld.meld now group line
