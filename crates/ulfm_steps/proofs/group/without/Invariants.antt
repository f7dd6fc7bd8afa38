use Rattle.std.proofs.Common.{◌≡◌, take}
use Rattle.ulfm_model.specs.History.{without}
use Rattle.ulfm_steps.proofs.group.without.Given as goal

abbrev pub invariant-loop-rank : goal.invariant-loop-rank
invariant-loop-rank g l = l.left.items ≡ without (take l.rank-index l.group) l.others
