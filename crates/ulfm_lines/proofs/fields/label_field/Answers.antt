use Rattle.ulfm_script.specs.Words.{rest_at}
use Rattle.ulfm_lines.proofs.Beginnings.{label_before}
use Rattle.ulfm_lines.proofs.fields.label_field.Goals as goal

pub returns-in-Some : goal.returns-in-Some
returns-in-Some c = label_before c.args.label.now c.in-Some.rest.now (rest_at c.args.text) c.requires c.in-Some.ensures
