use Rattle.std.proofs.Common.{◌≡◌, ◌≤◌, filter, length, nat_le, take}
use Rattle.ulfm_steps.proofs.group.count_up_to.Given as goal

abbrev pub invariant-loop-rank : goal.invariant-loop-rank
invariant-loop-rank l = record {
  counted : l.count ≡ length (filter (λ rank. nat_le rank l.last) (take l.rank-index l.ranks));
  few : l.count ≤ l.rank-index;
}
