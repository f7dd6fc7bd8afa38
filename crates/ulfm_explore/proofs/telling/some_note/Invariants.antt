use Rattle.std.proofs.Common.{◌≡◌, [], length}
use Rattle.ulfm_script.specs.Scripts.{lines_from}
use Rattle.ulfm_explore.specs.Tellings.{some_note}
use Rattle.ulfm_explore.proofs.telling.some_note.Given as goal

abbrev pub invariant-notes : goal.invariant-notes
invariant-notes l = some_note l.words (lines_from [] l.left) ≡ some_note l.words (lines_from [] l.noted)

abbrev pub decreases-notes : goal.decreases-notes
decreases-notes l = length l.left
