use Rattle.std.proofs.Common.{◌∙◌}
use Rattle.ulfm_lines.proofs.StepsSpelled.{step_again, steps_found}
use Rattle.ulfm_lines.proofs.step_line.read_step_line.Goals as goal

pub returns-clause-only : goal.returns-clause-only
returns-clause-only c = λ step h. c.parse_step_line.ensures ∙ step_again c.args.line.now step h

pub returns-clause-found : goal.returns-clause-found
returns-clause-found c = steps_found c.args.line.now c.parse_step_line.result c.parse_step_line.ensures
