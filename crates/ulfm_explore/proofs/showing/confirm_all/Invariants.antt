use Rattle.std.proofs.Common.{map}
use Rattle.std.specs.List.{All}
use Rattle.ulfm_explore.specs.{Shows.{IsOutcome}, Views.{told_of}}
use Rattle.ulfm_explore.proofs.showing.confirm_all.Given as goal

abbrev pub invariant-loop-number : goal.invariant-loop-number
invariant-loop-number g l = All (IsOutcome l.program) (map told_of l.shown.items)
