use Rattle.std.proofs.Common.{◌≡◌, ◌+◌, ◌≤◌, false, is_some, length, true}
use Rattle.ulfm_model.specs.{Blocks.{IsSide}, declared.block.Side.TheVariants.{Back, Front}}
use Rattle.ulfm_words.specs.Steps.{view_of}
use Rattle.ulfm_steps.specs.{Blocks.{AreSet, BothTell, FindsSet, HoldsFirst, peeks_left}, Rounds.{round_on}}
use Rattle.ulfm_steps.proofs.Going.{SameRound, Went}
use Rattle.ulfm_steps.proofs.blocks.Peek.advance.Given as goal

abbrev pub invariant-loop-whole : goal.invariant-loop-whole
invariant-loop-whole g l = record {
  went : Went g.P.Meld.meld g.W.Words.alone false (view_of g.P.Packed.pack (g.W.Words.name l.words) (g.W.Words.sight l.initial.pass)) (view_of g.P.Packed.pack (g.W.Words.name l.words) (g.W.Words.sight l.pass));
  same : SameRound (view_of g.P.Packed.pack (g.W.Words.name l.words) (g.W.Words.sight l.pass)) (round_on l.initial.self.comm l.initial.self.round) (round_on l.self.comm l.self.round) l.group;
  some : IsSide l.self.side l.group;
  half : HoldsFirst g.P.Meld.meld (view_of g.P.Packed.pack (g.W.Words.name l.words) (g.W.Words.sight l.pass)) l.self;
  are : BothTell g.P.Meld.meld (g.W.Words.sight l.pass).seen l.self.comm l.self.round l.group l.self.blocks;
  front : l.initial.self.side ≡ Front → l.self.side ≡ Back → FindsSet (g.W.Words.sight l.initial.pass).cached l.self Front;
  onward : l.initial.self.side ≡ Back → l.self.side ≡ Back;
  kept : l.initial.self.side ≡ Back → l.self.blocks.front ≡ l.initial.self.blocks.front;
  sets : AreSet (g.W.Words.sight l.initial.pass).cached l.initial.self.comm l.initial.self.round l.initial.self.blocks → AreSet (g.W.Words.sight l.pass).cached l.initial.self.comm l.initial.self.round l.self.blocks;
  first : l.whole ≡ false → (g.W.Words.sight l.pass).steps ≡ (g.W.Words.sight l.initial.pass).steps;
  turn : l.whole ≡ false → l.self ≡ l.initial.self;
  left : (g.W.Words.sight l.pass).steps + peeks_left (length l.group) l.self ≤ (g.W.Words.sight l.initial.pass).steps + peeks_left (length l.group) l.initial.self;
}

abbrev pub decreases-loop-whole : goal.decreases-loop-whole
decreases-loop-whole g l = peeks_left (length l.group) l.self
