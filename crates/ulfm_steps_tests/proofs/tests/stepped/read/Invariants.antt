use Rattle.std.proofs.Common.{◌≤◌, length, take}
use Rattle.ulfm_model.specs.Blocks.{IsSummed}
use Rattle.ulfm_words.specs.Steps.{view_of, IsView}
use Rattle.ulfm_steps.specs.{Rounds.{IsRoundOf}, Turns.{running}}
use Rattle.ulfm_intruder.specs.Readings.{HoldsFirst, reads_left}
use Rattle.ulfm_steps_tests.proofs.tests.stepped.read.Given as goal

abbrev pub invariant-loop-reading : goal.invariant-loop-reading
invariant-loop-reading g l = record {
  of : IsView g.P.Meld.meld (view_of g.P.Packed.pack (g.W.Words.name l.words) (g.W.Words.sight l.pass));
  round_of : IsRoundOf (g.W.Words.name l.words).limits (g.W.Words.sight l.pass).seen l.reading.comm l.reading.round l.group;
  within : l.reading.read ≤ length l.group;
  read : IsSummed g.P.Meld.meld (g.W.Words.sight l.pass).seen l.reading.comm l.reading.round (take l.reading.read l.group) l.reading.all;
  first : HoldsFirst l.group (running l.reading (view_of g.P.Packed.pack (g.W.Words.name l.words) (g.W.Words.sight l.pass)));
}

abbrev pub decreases-loop-reading : goal.decreases-loop-reading
decreases-loop-reading g l = reads_left l.group l.reading
