use Rattle.std.proofs.Common.{◌≡◌, ◌<◌, ◌≤◌, length, take}
use Rattle.ulfm_model.specs.History.{spawns}
use Rattle.ulfm_model.proofs.groups.find_origin.Given as goal

-- so many were made so far, and this communicator was not
abbrev pub invariant-loop-place : goal.invariant-loop-place
invariant-loop-place g l = record { count : l.count ≡ length (spawns (take l.place l.history)); few : l.count ≤ l.place; below : 0 < l.comm → l.count < l.comm }
