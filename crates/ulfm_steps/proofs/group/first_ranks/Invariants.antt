use Rattle.std.proofs.Common.{◌≡◌}
use Rattle.ulfm_model.specs.History.{first_ranks}
use Rattle.ulfm_steps.proofs.group.first_ranks.Given as goal

abbrev pub invariant-loop-rank : goal.invariant-loop-rank
invariant-loop-rank g l = l.group.items ≡ first_ranks l.rank
