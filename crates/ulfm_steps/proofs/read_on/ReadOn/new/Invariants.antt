use Rattle.std.proofs.Common.{◌≡◌, ◌≤◌, filter, length, take}
use Rattle.ulfm_model.specs.History.{has}
use Rattle.ulfm_steps.proofs.read_on.ReadOn.new.Given as goal

abbrev pub invariant-loop-rank : goal.invariant-loop-rank
invariant-loop-rank l = record {
  reach : l.at.reach ≡ l.rank-index;
  counted : l.at.found ≡ length (filter (has l.group) (take l.rank-index l.seen));
  few : l.at.found ≤ l.count;
}
