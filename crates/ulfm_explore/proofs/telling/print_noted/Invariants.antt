use Rattle.std.proofs.Common.{◌≡◌, [], length, codes}
use Rattle.ulfm_script.specs.Scripts.{lines_from}
use Rattle.ulfm_explore.specs.Tellings.{notes_to}
use Rattle.ulfm_explore.proofs.telling.print_noted.Given as goal

abbrev pub invariant-notes : goal.invariant-notes
invariant-notes g l = notes_to l.text.items l.sign (lines_from [] l.left) ≡ notes_to l.fn.text.items (codes ": ") (lines_from [] l.noted)

abbrev pub decreases-notes : goal.decreases-notes
decreases-notes g l = length l.left
