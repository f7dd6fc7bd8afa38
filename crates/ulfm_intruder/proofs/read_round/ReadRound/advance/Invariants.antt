use Rattle.std.proofs.Common.{◌≡◌, ◌+◌, ◌≤◌, ◌<◌, [], false, length, take}
use mathlib.Core.List.{IsPrefix}
use Rattle.ulfm_model.specs.Runs.{Did}
use Rattle.ulfm_words.specs.Steps.{view_of, IsView}
use Rattle.ulfm_model.specs.Blocks.{IsSummed}
use Rattle.ulfm_steps.specs.{Rounds.{IsRoundOf}, Turns.{running}}
use Rattle.ulfm_intruder.specs.Readings.{HoldsFirst, halves_read, reads_left}
use Rattle.ulfm_intruder.proofs.read_round.ReadRound.advance.Given as goal

abbrev pub invariant-loop-reading : goal.invariant-loop-reading
invariant-loop-reading g l = record {
  of : IsView g.P.Meld.meld (view_of g.P.Packed.pack (g.W.Words.name l.words) (g.W.Words.sight l.pass));
  comm : l.reading.comm ≡ l.initial.reading.comm;
  round : l.reading.round ≡ l.initial.reading.round;
  did : Did g.W.Words.alone [] (g.W.Words.sight l.initial.pass).seen (g.W.Words.sight l.pass).seen;
  round_of : IsRoundOf (g.W.Words.name l.words).limits (g.W.Words.sight l.pass).seen l.reading.comm l.reading.round l.group;
  cached : IsPrefix (g.W.Words.sight l.initial.pass).cached (g.W.Words.sight l.pass).cached;
  onward : halves_read l.initial.reading ≤ halves_read l.reading;
  within : l.reading.read ≤ length l.group;
  read : IsSummed g.P.Meld.meld (g.W.Words.sight l.pass).seen l.reading.comm l.reading.round (take l.reading.read l.group) l.reading.all;
  holds : HoldsFirst l.group (running l.reading (view_of g.P.Packed.pack (g.W.Words.name l.words) (g.W.Words.sight l.pass)));
  caches : (g.W.Words.sight l.pass).caches ≡ (g.W.Words.sight l.initial.pass).caches;
  forward : (g.W.Words.sight l.initial.pass).steps ≤ (g.W.Words.sight l.pass).steps;
  steps : (g.W.Words.sight l.pass).steps + reads_left l.group l.reading ≤ (g.W.Words.sight l.initial.pass).steps + reads_left l.group l.initial.reading;
  some : l.initial.reading.read < l.reading.read → (g.W.Words.sight l.initial.pass).steps < (g.W.Words.sight l.pass).steps;
  first : l.whole ≡ false → (g.W.Words.sight l.pass).steps ≡ (g.W.Words.sight l.initial.pass).steps;
  turn : l.whole ≡ false → l.reading ≡ l.initial.reading;
}

abbrev pub decreases-loop-reading : goal.decreases-loop-reading
decreases-loop-reading g l = reads_left l.group l.reading
