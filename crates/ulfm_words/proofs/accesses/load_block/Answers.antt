use Rattle.std.proofs.Common.{◌≢◌, inl, inr, ℕ}
use Rattle.ulfm_model.specs.{Blocks.{IsBlock, IsCached}, History.{History}}
use Rattle.ulfm_words.proofs.accesses.load_block.Goals as goal

block_is : {P : Type 0} (meld : P → P → P) (pack : P → ℕ) (ranks : ℕ) (h : History P) (b : _) (w : ℕ) → IsCached meld pack ranks h b w → w ≢ 0 → IsBlock meld pack ranks h b w
block_is meld pack ranks h b w (inl none) some = absurd (some none)
block_is meld pack ranks h b w (inr is) some = is

pub returns-clause-first : goal.returns-clause-first
returns-clause-first g c =
    block_is g.P.Meld.meld g.P.Packed.pack (g.W.Words.name c.args.words.now).limits.ranks (g.W.Words.sight c.load_block-word.new.pass).seen c.args.block c.load_block-word.result c.load_block-word.ensures.stands.cached c.if-word-eq0.false
