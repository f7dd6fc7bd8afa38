use Rattle.std.proofs.Common.{◌≡◌, [], length}
use Rattle.ulfm_script.specs.Scripts.{lines_from}
use Rattle.ulfm_explore.specs.Readings.{takes_all}
use Rattle.ulfm_explore.specs.Views.{reached}
use Rattle.ulfm_explore.proofs.reading.Reader.take_all.Given as goal

abbrev pub invariant-lines : goal.invariant-lines
invariant-lines g l =
    takes_all l.self.program.now l.self.callers.now l.self.rank (lines_from [] l.left) (reached l.reading)
    ≡ takes_all l.self.program.now l.self.callers.now l.self.rank (lines_from [] l.trace) (reached l.fn.reading)

abbrev pub decreases-lines : goal.decreases-lines
decreases-lines g l = length l.left
