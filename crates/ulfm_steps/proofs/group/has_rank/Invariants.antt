use Rattle.std.proofs.Common.{◌≡◌, take}
use Rattle.ulfm_model.specs.History.{has}
use Rattle.ulfm_steps.proofs.group.has_rank.Given as goal

abbrev pub invariant-loop-x : goal.invariant-loop-x
invariant-loop-x l = record {
  found : l.found ≡ has (take l.x-index l.ranks) l.rank;
}
