use Rattle.std.proofs.Common.{◌≡◌, ◌+◌, ◌-◌, ◌<◌, ◌≤◌, false, vec_capacity, vec_len}
use mathlib.Core.List.{IsPrefix}
use Rattle.ulfm_model.specs.{History.{failures}}
use Rattle.ulfm_words.specs.Steps.{view_of}
use Rattle.ulfm_steps.specs.ReadsOn.{AtFailure, MayReadOn}
use Rattle.ulfm_steps.proofs.Going.{Went}
use Rattle.ulfm_steps.proofs.read_on.ReadOn.advance.Given as goal

abbrev pub invariant-loop-self : goal.invariant-loop-self
invariant-loop-self g l = record {
  went : Went g.P.Meld.meld g.W.Words.alone false (view_of g.P.Packed.pack (g.W.Words.name l.words) (g.W.Words.sight l.initial.pass)) (view_of g.P.Packed.pack (g.W.Words.name l.words) (g.W.Words.sight l.pass));
  may : MayReadOn l.group l.count l.seen.items (failures (g.W.Words.sight l.pass).seen);
  at : AtFailure l.group l.count l.self l.seen.items;
  more : l.self.found < l.count;
  goes_on : IsPrefix l.initial.seen.items l.seen.items;
  steps : (g.W.Words.sight l.pass).steps + vec_len l.initial.seen ≡ (g.W.Words.sight l.initial.pass).steps + vec_len l.seen;
  first : l.whole ≡ false → (g.W.Words.sight l.pass).steps ≡ (g.W.Words.sight l.initial.pass).steps;
  room : (g.W.Words.name l.words).limits.ranks ≤ vec_capacity l.seen;
  kept : vec_capacity l.initial.seen ≤ vec_capacity l.seen;
}

abbrev pub decreases-loop-self : goal.decreases-loop-self
decreases-loop-self g l = (g.W.Words.name l.words).limits.ranks - vec_len l.seen
