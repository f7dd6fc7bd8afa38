use Rattle.std.proofs.Common.{◌≡◌, ◌+◌, ◌≤◌, false, true, length}
use Rattle.ulfm_words.specs.Steps.{view_of}
use Rattle.ulfm_steps.specs.{Blocks.{AreSet, AtBlock, HoldsHalf, blocks_left}, Rounds.{round_on}}
use Rattle.ulfm_steps.proofs.Going.{SameRound, Went}
use Rattle.ulfm_steps.proofs.blocks.ReadBlocks.advance.Given as goal

abbrev pub invariant-loop-found : goal.invariant-loop-found
invariant-loop-found g l = record {
  went : Went g.P.Meld.meld g.W.Words.alone true (view_of g.P.Packed.pack (g.W.Words.name l.words) (g.W.Words.sight l.initial.pass)) (view_of g.P.Packed.pack (g.W.Words.name l.words) (g.W.Words.sight l.pass));
  same : SameRound (view_of g.P.Packed.pack (g.W.Words.name l.words) (g.W.Words.sight l.pass)) (round_on l.initial.self.comm l.initial.self.round) (round_on l.self.comm l.self.round) l.group;
  at : AtBlock g.P.Meld.meld (g.W.Words.sight l.pass).seen l.group l.self;
  half : HoldsHalf (view_of g.P.Packed.pack (g.W.Words.name l.words) (g.W.Words.sight l.pass)) l.group l.self;
  sets : AreSet (g.W.Words.sight l.initial.pass).cached l.initial.self.comm l.initial.self.round l.initial.self.blocks → AreSet (g.W.Words.sight l.pass).cached l.self.comm l.self.round l.self.blocks;
  first : l.whole ≡ false → (g.W.Words.sight l.pass).steps ≡ (g.W.Words.sight l.initial.pass).steps;
  turn : l.whole ≡ false → l.self ≡ l.initial.self;
  steps : (g.W.Words.sight l.pass).steps + blocks_left (length l.group) l.self ≤ (g.W.Words.sight l.initial.pass).steps + blocks_left (length l.group) l.initial.self;
}

abbrev pub decreases-loop-found : goal.decreases-loop-found
decreases-loop-found g l = blocks_left (length l.group) l.self
