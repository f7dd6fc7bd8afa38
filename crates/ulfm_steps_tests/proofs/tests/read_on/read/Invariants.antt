use Rattle.std.proofs.Common.{◌-◌, ◌≤◌, vec_capacity, vec_len}
use Rattle.ulfm_model.specs.History.{failures}
use Rattle.ulfm_words.specs.Steps.{view_of, IsView}
use Rattle.ulfm_steps.specs.ReadsOn.{AtFailure, MayReadOn}
use Rattle.ulfm_steps_tests.proofs.tests.read_on.read.Given as goal

abbrev pub invariant-loop-on : goal.invariant-loop-on
invariant-loop-on g l = record {
  of : IsView g.P.Meld.meld (view_of g.P.Packed.pack (g.W.Words.name l.words) (g.W.Words.sight l.pass));
  may : MayReadOn l.group l.asked l.seen.items (failures (g.W.Words.sight l.pass).seen);
  at : AtFailure l.group l.asked l.on l.seen.items;
  room : (g.W.Words.name l.words).limits.ranks ≤ vec_capacity l.seen;
  kept : vec_capacity l.initial.seen ≤ vec_capacity l.seen;
}

abbrev pub decreases-loop-on : goal.decreases-loop-on
decreases-loop-on g l = (g.W.Words.name l.words).limits.ranks - vec_len l.seen
