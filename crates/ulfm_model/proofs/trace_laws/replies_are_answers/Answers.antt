use Rattle.ulfm_model.proofs.Answered.{replies_answered}
use Rattle.ulfm_model.proofs.trace_laws.replies_are_answers.Goals as goal

pub returns : goal.returns
returns g c = λ limits before rest by point reply group legal. replies_answered g.P.Meld.meld limits before rest by point reply group legal
