use Rattle.std.proofs.Common.{◌≡◌}
use Rattle.ulfm_filters.specs.RaceLines.{as_lists, rounds_text}
use Rattle.ulfm_filters.proofs.race_text.race_lines.Given as goal

abbrev pub invariant-loop-round : goal.invariant-loop-round
invariant-loop-round g l = l.text.items ≡ rounds_text l.round (as_lists l.replies)
