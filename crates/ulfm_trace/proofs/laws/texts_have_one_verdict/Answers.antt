use Rattle.ulfm_trace.proofs.Beginnings.{one_law}
use Rattle.ulfm_trace.proofs.laws.texts_have_one_verdict.Goals as goal

pub returns : goal.returns
returns c = one_law
