use Rattle.ulfm_script.specs.Words.{rest_at}
use Rattle.ulfm_lines.proofs.Leading.{rank_calls}
use Rattle.ulfm_lines.proofs.fields.caller_field.Goals as goal

pub returns-in-Ok : goal.returns-in-Ok
returns-in-Ok c = rank_calls (rest_at c.args.text) c.in-Ok.rank (rest_at c.in-Ok.rest) c.in-Ok.ensures
