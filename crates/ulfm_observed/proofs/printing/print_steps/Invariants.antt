use Rattle.std.proofs.Common.{◌≡◌, ◌++◌, drop}
use Rattle.std.specs.Prelude.{map}
use Rattle.ulfm_lines.specs.LineTexts.{lines_text}
use Rattle.ulfm_observed.specs.Stages.{told_of}
use Rattle.ulfm_observed.proofs.printing.print_steps.Given as goal

abbrev pub invariant-loop-step : goal.invariant-loop-step
invariant-loop-step g l =
    l.text.items ++ lines_text (map told_of (drop l.step-index l.steps))
    ≡ l.fn.text.items ++ lines_text (map told_of l.steps)
