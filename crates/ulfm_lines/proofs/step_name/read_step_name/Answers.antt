use Rattle.std.proofs.Common.{ap, ◌∙◌}
use Rattle.ulfm_lines.specs.StepNames.{read_step_name}
use Rattle.ulfm_lines.proofs.StepsSpelled.{name_again, names_found}
use Rattle.ulfm_lines.proofs.step_name.read_step_name.Goals as goal

pub returns-clause-only : goal.returns-clause-only
returns-clause-only c = λ name e. c.parse_name.ensures ∙ (ap read_step_name e ∙ name_again name)

pub returns-clause-found : goal.returns-clause-found
returns-clause-found c = names_found c.args.word.now c.parse_name.result c.parse_name.ensures
