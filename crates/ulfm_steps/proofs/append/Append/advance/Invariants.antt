use Rattle.std.proofs.Common.{◌≡◌, ◌+◌, ◌<◌, ◌≤◌, false}
use Rattle.ulfm_words.specs.Steps.{view_of}
use Rattle.ulfm_steps.specs.Appends.{MayAppend, Passed, room, turns_left}
use Rattle.ulfm_steps.proofs.Going.{Went}
use Rattle.ulfm_steps.proofs.append.Append.advance.Given as goal

abbrev pub invariant-loop-end : goal.invariant-loop-end
invariant-loop-end g l = record {
  item : l.self.item ≡ l.initial.self.item;
  by : l.self.by ≡ l.initial.self.by;
  went : Went g.P.Meld.meld g.W.Words.alone false (view_of g.P.Packed.pack (g.W.Words.name l.words) (g.W.Words.sight l.initial.pass)) (view_of g.P.Packed.pack (g.W.Words.name l.words) (g.W.Words.sight l.pass));
  may : MayAppend g.P.Meld.meld (g.W.Words.name l.words).limits (g.W.Words.sight l.pass).seen l.self.item;
  passed : Passed (g.W.Words.sight l.pass).seen l.self.item l.self.index;
  within : l.self.index < room l.self.item (g.W.Words.name l.words).limits;
  first : l.whole ≡ false → (g.W.Words.sight l.pass).steps ≡ (g.W.Words.sight l.initial.pass).steps;
  turn : l.whole ≡ false → l.self ≡ l.initial.self;
  steps : (g.W.Words.sight l.pass).steps + turns_left (room l.self.item (g.W.Words.name l.words).limits) l.self ≤ (g.W.Words.sight l.initial.pass).steps + turns_left (room l.initial.self.item (g.W.Words.name l.words).limits) l.initial.self;
}

abbrev pub decreases-loop-end : goal.decreases-loop-end
decreases-loop-end g l = turns_left (room l.self.item (g.W.Words.name l.words).limits) l.self
