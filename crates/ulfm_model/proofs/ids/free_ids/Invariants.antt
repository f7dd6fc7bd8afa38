use Rattle.std.proofs.Common.{◌≡◌, take}
use Rattle.ulfm_model.specs.Records.{free_ids}
use Rattle.ulfm_model.proofs.ids.free_ids.Given as goal

-- the ids that the communicators so far leave free
abbrev pub invariant-loop-x : goal.invariant-loop-x
invariant-loop-x g l = l.free ≡ free_ids (take l.x-index l.held)
