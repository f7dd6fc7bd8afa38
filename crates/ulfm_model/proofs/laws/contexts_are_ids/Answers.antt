use Rattle.ulfm_model.proofs.Contexts.{has_one_context}
use Rattle.ulfm_model.proofs.laws.contexts_are_ids.Goals as goal

pub returns : goal.returns
returns g c = has_one_context g.P.Meld.meld
