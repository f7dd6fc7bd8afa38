use Rattle.std.proofs.Common.{◌≡◌}
use Rattle.ulfm_model.specs.History.{first_ranks}
use Rattle.ulfm_model.proofs.groups.first_ranks.Given as goal

abbrev pub invariant-loop-rank : goal.invariant-loop-rank
invariant-loop-rank g l = l.ranks.items ≡ first_ranks l.rank
