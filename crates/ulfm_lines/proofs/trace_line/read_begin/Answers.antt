use Rattle.std.proofs.Common.{refl}
use Rattle.std.specs.Prelude.{codes}
use Rattle.ulfm_script.specs.Spelling.{is_padded}
use Rattle.ulfm_lines.proofs.ReadLemmas.{is_call, told_by, untold_by}
use Rattle.ulfm_model.specs.declared.line.Line.TheVariants.{Called}
use Rattle.ulfm_lines.proofs.trace_line.read_begin.Goals as goal

pub returns-in-Ok : goal.returns-in-Ok
returns-in-Ok c =
    let read = told_by (codes "call") c.args.line.now _ refl c.in_ok-text.ensures.1 _ (λ asked. Called asked (is_padded c.in_ok-text.text.now asked)) (is_call _) _ c.in_ok-text.ensures.0 c.in-Ok.ensures.exact in rw c.is_padded-padded.ensures.exact (record { found = read.0; only = λ call padded. read.1 (Called call padded) })

pub returns-in-Err-clause-only : goal.returns-in-Err-clause-only
returns-in-Err-clause-only c = λ call padded. untold_by (codes "call") c.args.line.now _ refl c.in_ok-text.ensures.1 _ (λ asked. Called asked (is_padded c.in_ok-text.text.now asked)) (is_call _) _ c.in-Err.ensures.exact (Called call padded)
