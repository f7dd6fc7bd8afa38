use Rattle.ulfm_script.proofs.Spelled.{spelled_is}
use Rattle.ulfm_script.proofs.calls.is_padded.Goals as goal

pub returns-clause-spelled : goal.returns-clause-spelled
returns-clause-spelled c = λ h. rw c.has_padding.ensures (spelled_is c.args.line.now c.args.call.now h)
