use Rattle.std.proofs.Common.{◌≡◌, false}
use Rattle.ulfm_schedules.proofs.finding.find_all.Given as goal

abbrev pub invariant-loop-number : goal.invariant-loop-number
invariant-loop-number g l = l.is_whole ≡ false
