use Rattle.std.proofs.Common.{refl}
use Rattle.std.specs.Prelude.{codes}
use Rattle.ulfm_lines.proofs.ReadLemmas.{is_look, told_by, untold_by}
use Rattle.ulfm_model.specs.declared.line.Line.TheVariants.{Looked}
use Rattle.ulfm_lines.proofs.trace_line.read_look.Goals as goal

pub returns-in-Ok : goal.returns-in-Ok
returns-in-Ok c =
    let read = told_by (codes "look") c.args.line.now _ refl c.in_ok-fields.ensures.1 _ (λ x. Looked x.0 x.1) (is_look _) _ c.in_ok-fields.ensures.0 c.in-Ok.ensures in record { found = read.0; only = λ rank failures. read.1 (Looked rank failures) }

pub returns-in-Err-clause-only : goal.returns-in-Err-clause-only
returns-in-Err-clause-only c = λ rank failures. untold_by (codes "look") c.args.line.now _ refl c.in_ok-fields.ensures.1 _ (λ x. Looked x.0 x.1) (is_look _) _ c.in-Err.ensures (Looked rank failures)
