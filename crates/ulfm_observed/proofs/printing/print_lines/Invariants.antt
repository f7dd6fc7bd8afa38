use Rattle.std.proofs.Common.{◌≡◌, ◌++◌, drop}
use Rattle.std.specs.Prelude.{map}
use Rattle.ulfm_observed.specs.LogTexts.{heard_of, heard_text}
use Rattle.ulfm_observed.proofs.printing.print_lines.Given as goal

abbrev pub invariant-loop-line : goal.invariant-loop-line
invariant-loop-line g l = l.text.items ++ heard_text (map heard_of (drop l.line-index l.lines)) ≡ l.fn.text.items ++ heard_text (map heard_of l.lines)
