use Rattle.std.proofs.Common.{◌∙◌, Some, IsTrue, ap, subst}
use Rattle.ulfm_script.proofs.Same.{same_reply}
use Rattle.ulfm_script.proofs.last_line.LastLine.is_of.Goals as goal

pub returns-in-Some : goal.returns-in-Some
returns-in-Some g c = λ t. c.in-Some.is ∙ ap (λ r. Some r) (same_reply c.in-Some.told c.args.reply.now (subst IsTrue c.eq.ensures t))
