use Rattle.std.proofs.Common.{◌≡◌, map, take}
use Rattle.ulfm_explore.specs.Views.{row_of}
use Rattle.ulfm_explore.proofs.confirm.are_same.Given as goal

-- The rows so far say the same.
abbrev pub invariant-loop-i : goal.invariant-loop-i
invariant-loop-i g l = map row_of (take l.i l.first) ≡ map row_of (take l.i l.second)
