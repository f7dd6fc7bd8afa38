use Rattle.std.proofs.Common.{◌≡◌, [], take, drop}
use Rattle.ulfm_script.specs.Scripts.{lines_from}
use Rattle.ulfm_explore.proofs.reading.split_line.Given as goal

abbrev pub invariant-loop-i : goal.invariant-loop-i
invariant-loop-i l = lines_from (take l.i l.text) (drop l.i l.text) ≡ lines_from [] l.text
