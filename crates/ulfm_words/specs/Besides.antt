-- The words that no event sets: those of blocks, and wings. What stands at each, and what is known of them.
use Rattle.std.specs.Prelude.{◌≡◌, ◌≢◌, ◌⊎◌, ℕ, ◌<◌, true, List, Some}
use Rattle.ulfm_model.specs.declared.{block.Beside.{Beside}, block.Block.{Block}, block.Wing.{Wing}, contribution.Contribution.{Contribution}}
use Rattle.ulfm_model.specs.declared.{contribution.Slot.{Slot}, limits.Limits.{Limits}}
use Rattle.ulfm_model.specs.{Blocks.{IsBlockWithin, IsCached, IsWing, has_block, has_wing}, History.{History, slot}, Words.{slot_wing}}
use Rattle.ulfm_words.specs.Places.{IsCell, IsWingWithin}

-- what such words rest on: a history, the world's limits, and which of the words are known to be set
pub record Written (P : Type 0) : Type 0 where
  pub seen : History P
  pub limits : Limits
  pub cached : List Beside

abbrev pub written : {P : Type 0} → History P → Limits → List Beside → Written P
written seen limits cached = record { seen = seen; limits = limits; cached = cached }

-- Each block's word is 0 or that of its settled members, and isn't 0 where it is known to be set. A wing that is known to be set has the word that is
-- known, and isn't 0. A contribution's wing is its own; a block's is 0 or its own, and isn't 0 where the block's word isn't.
pub record AreBeside {P : Type 0} (meld : P → P → P) (pack : P → ℕ) (of : Written P) (block : Block → ℕ) (wing : Wing → ℕ) : Type 0 where
  pub word : (b : Block) → IsBlockWithin of.limits b → IsCached meld pack of.limits.ranks of.seen b (block b)
  pub told : (b : Block) → IsBlockWithin of.limits b → has_block of.cached b ≡ true → block b ≢ 0
  pub first : (b : Block) → IsBlockWithin of.limits b → block b ≢ 0 → wing (Wing.Block b) ≢ 0
  pub known : (x : Wing) → IsWingWithin of.limits x → (w : ℕ) → has_wing of.cached x w ≡ true → (wing x ≡ w) × (0 < w)
  pub given : (c k r : ℕ) → IsCell of.limits c k r → (g : Contribution P) → slot of.seen c k r ≡ Some (Slot.Given g)
      → wing (Wing.Slot c k r) ≡ slot_wing pack (Slot.Given g)
  pub said : (b : Block) → IsBlockWithin of.limits b
      → (wing (Wing.Block b) ≡ 0) ⊎ IsWing meld pack of.limits.ranks of.seen (Wing.Block b) (wing (Wing.Block b))
