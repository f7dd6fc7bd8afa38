use Rattle.std.proofs.Common.{refl}
use Rattle.std.specs.Prelude.{codes}
use Rattle.ulfm_lines.proofs.ReadLemmas.{is_event, told_by, untold_by}
use Rattle.ulfm_model.specs.declared.line.Line.TheVariants.{Happened}
use Rattle.ulfm_lines.proofs.trace_line.read_happening.Goals as goal

pub returns-in-Ok : goal.returns-in-Ok
returns-in-Ok c =
    let read = told_by (codes "event") c.args.line.now _ refl c.in_ok-fields.ensures.1 _ (λ x. Happened x.0 x.1) (is_event _) _ c.in_ok-fields.ensures.0 c.in-Ok.ensures in record { found = read.0; only = λ by event. read.1 (Happened by event) }

pub returns-in-Err-clause-only : goal.returns-in-Err-clause-only
returns-in-Err-clause-only c = λ by event. untold_by (codes "event") c.args.line.now _ refl c.in_ok-fields.ensures.1 _ (λ x. Happened x.0 x.1) (is_event _) _ c.in-Err.ensures (Happened by event)
