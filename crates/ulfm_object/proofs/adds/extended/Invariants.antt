use Rattle.std.proofs.Common.{◌≡◌, ◌++◌, take}
use Rattle.ulfm_model.specs.History.{entries_by}
use Rattle.ulfm_object.proofs.adds.extended.Given as goal

abbrev pub invariant-loop-event : goal.invariant-loop-event
invariant-loop-event g l = l.longer.items ≡ l.history ++ entries_by l.by (take l.event-index l.events)
