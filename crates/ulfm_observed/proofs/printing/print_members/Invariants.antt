use Rattle.std.proofs.Common.{◌≡◌, ◌++◌, drop}
use Rattle.ulfm_script.specs.Printed.{ranks_text}
use Rattle.ulfm_observed.proofs.printing.print_members.Given as goal

abbrev pub invariant-loop-rank : goal.invariant-loop-rank
invariant-loop-rank g l = l.text.items ++ ranks_text (drop l.rank-index l.group) ≡ l.fn.text.items ++ ranks_text l.group
