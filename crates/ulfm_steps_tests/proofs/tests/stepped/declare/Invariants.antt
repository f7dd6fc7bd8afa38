use Rattle.std.proofs.Common.{◌<◌}
use Rattle.ulfm_words.specs.Steps.{view_of, IsView}
use Rattle.ulfm_steps.specs.Appends.{HasRound, MayAppend, Passed, room, turns_left}
use Rattle.ulfm_steps_tests.proofs.tests.stepped.declare.Given as goal

abbrev pub invariant-loop-end : goal.invariant-loop-end
invariant-loop-end g l = record {
  of : IsView g.P.Meld.meld (view_of g.P.Packed.pack (g.W.Words.name l.words) (g.W.Words.sight l.pass));
  may : MayAppend g.P.Meld.meld (g.W.Words.name l.words).limits (g.W.Words.sight l.pass).seen l.append.item;
  round : HasRound (g.W.Words.name l.words).limits l.append.item;
  passed : Passed (g.W.Words.sight l.pass).seen l.append.item l.append.index;
  within : l.append.index < room l.append.item (g.W.Words.name l.words).limits;
}

abbrev pub decreases-loop-end : goal.decreases-loop-end
decreases-loop-end g l = turns_left (room l.append.item (g.W.Words.name l.words).limits) l.append
