use Rattle.std.proofs.Common.{◌≡◌}
use Rattle.std.specs.Prelude.{map}
use Rattle.ulfm_observed.specs.{LogTexts.{heard_of}, Walked.{left_of}}
use Rattle.ulfm_observed.proofs.shows.next_line.Given as goal

-- What is left of theirs is the same from here on.
abbrev pub invariant-loop-at : goal.invariant-loop-at
invariant-loop-at g l = left_of l.whose (map heard_of l.lines) l.from ≡ left_of l.whose (map heard_of l.lines) l.at
