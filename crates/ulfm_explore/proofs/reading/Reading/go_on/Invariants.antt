use Rattle.std.proofs.Common.{◌≡◌, ◌-◌}
use Rattle.ulfm_explore.specs.Readings.{goes_on, gone_on}
use Rattle.ulfm_explore.specs.Views.{reached}
use Rattle.ulfm_explore.proofs.reading.Reading.go_on.Given as goal

abbrev pub invariant-loop-number : goal.invariant-loop-number
invariant-loop-number g l = goes_on l.program l.rank (l.most - l.number) (reached l.self) ≡ gone_on l.program l.rank (reached l.fn.self)
