use Rattle.std.proofs.Common.{◌≡◌, drop}
use Rattle.ulfm_lines.specs.StepNames.{read_step_name}
use Rattle.ulfm_lines.proofs.Tables.{first_name}
use Rattle.ulfm_lines.proofs.step_name.parse_name.Given as goal

abbrev pub invariant-loop-name : goal.invariant-loop-name
invariant-loop-name l = first_name (drop l.name-index l.name-items) l.word ≡ read_step_name l.word
