use Rattle.std.proofs.Common.{◌≡◌, ◌≤◌, filter, length, take, vec_capacity}
use Rattle.ulfm_model.specs.History.{has}
use Rattle.ulfm_steps.proofs.group.put_in.Given as goal

abbrev pub invariant-loop-rank : goal.invariant-loop-rank
invariant-loop-rank g l = record {
  found : l.found.items ≡ filter (has l.group) (take l.rank-index l.ranks);
  room : length (filter (has l.group) l.ranks) ≤ vec_capacity l.found;
}
