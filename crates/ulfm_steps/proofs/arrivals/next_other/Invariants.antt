use Rattle.std.proofs.Common.{◌≡◌, take}
use Rattle.ulfm_model.specs.History.{without}
use Rattle.ulfm_steps.proofs.arrivals.next_other.Given as goal

abbrev pub invariant-loop-at : goal.invariant-loop-at
invariant-loop-at l = record {
  none : without (take l.at l.group) l.declared ≡ without (take l.start l.group) l.declared;
}
