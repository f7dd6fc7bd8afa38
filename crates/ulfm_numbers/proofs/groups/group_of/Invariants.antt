use Rattle.std.proofs.Common.{◌≡◌, take}
use Rattle.ulfm_numbers.specs.Failed.{IsFailed, members_of}
use Rattle.ulfm_numbers.proofs.groups.group_of.Given as goal

abbrev pub invariant-loop-place : goal.invariant-loop-place
invariant-loop-place g l = (members_of l.group ≡ l.fn.members.items) × IsFailed (take l.place l.failures) l.group
