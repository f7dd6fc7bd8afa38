use Rattle.std.proofs.Common.{◌-◌, length}
use Rattle.ulfm_words.specs.Steps.{view_of, IsView}
use Rattle.ulfm_steps.specs.Marks.{IsAt, MayMarkAll}
use Rattle.ulfm_steps_tests.proofs.tests.stepped.mark.Given as goal

abbrev pub invariant-loop-marking : goal.invariant-loop-marking
invariant-loop-marking g l = record {
  of : IsView g.P.Meld.meld (view_of g.P.Packed.pack (g.W.Words.name l.words) (g.W.Words.sight l.pass));
  may : MayMarkAll (g.W.Words.name l.words).limits (g.W.Words.sight l.pass).seen l.marking.comm l.marking.round l.group l.declared;
  at : IsAt l.group l.declared l.marking.next l.marking.known;
}

abbrev pub decreases-loop-marking : goal.decreases-loop-marking
decreases-loop-marking g l = length l.declared - l.marking.next
