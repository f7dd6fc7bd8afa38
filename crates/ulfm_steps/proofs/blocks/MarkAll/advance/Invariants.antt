use Rattle.std.proofs.Common.{◌≡◌, ◌-◌, ◌<◌, ◌≤◌, false, length}
use Rattle.ulfm_steps.specs.Marks.{HasMarked, IsAt, MayMarkAll}
use Rattle.ulfm_steps.proofs.blocks.MarkAll.advance.Given as goal
use Rattle.ulfm_steps.specs.Among.{among}
use Rattle.ulfm_words.specs.Steps.{view_of}

abbrev pub invariant-loop-self : goal.invariant-loop-self
invariant-loop-self g l = record {
  rank : l.self.rank ≡ l.initial.self.rank;
  comm : l.self.comm ≡ l.initial.self.comm;
  round : l.self.round ≡ l.initial.self.round;
  may : MayMarkAll (g.W.Words.name l.words).limits (g.W.Words.sight l.pass).seen l.self.comm l.self.round l.group l.declared;
  at : IsAt l.group l.declared l.self.next l.self.known;
  onward : l.initial.self.next ≤ l.self.next;
  more : l.initial.self.next < l.self.next → (g.W.Words.sight l.initial.pass).steps < (g.W.Words.sight l.pass).steps;
  first : l.whole ≡ false → l.self.next ≡ l.initial.self.next;
  none : l.whole ≡ false → (g.W.Words.sight l.pass).steps ≡ (g.W.Words.sight l.initial.pass).steps;
  same : l.whole ≡ false → (l.self ≡ l.initial.self) × (g.W.Words.sight l.pass ≡ g.W.Words.sight l.initial.pass);
  marked : HasMarked g.P.Meld.meld g.W.Words.alone l.initial.self (among l.group l.declared) l.self.next (view_of g.P.Packed.pack (g.W.Words.name l.words) (g.W.Words.sight l.initial.pass)) (view_of g.P.Packed.pack (g.W.Words.name l.words) (g.W.Words.sight l.pass));
}

abbrev pub decreases-loop-self : goal.decreases-loop-self
decreases-loop-self g l = length l.declared - l.self.next
