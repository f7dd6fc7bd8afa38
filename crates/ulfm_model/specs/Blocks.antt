-- The blocks of a round: which members they have, and what their words say.
use Rattle.std.specs.Prelude.{◌≡◌, ◌⊎◌, ℕ, zero, suc, ◌-◌, ◌*◌, ◌<◌, ◌==◌, ◌&&◌, ◌||◌, Bool, true, false, if◌then◌else◌, nat_le, is_some, Some}
use Rattle.std.specs.Prelude.{List, [], ◌∷◌, length, take, drop}
use Rattle.std.specs.List.{list_all}
use Rattle.ulfm_laws.specs.declared.{summary.Body.{Body}, summary.Body.TheVariants.{Unit as Nothing, Flag as OfFlags, Ctx as OfIds, Clash}}
use Rattle.ulfm_laws.specs.declared.{summary.Summary.{Summary}}
use Rattle.ulfm_model.specs.declared.{block.Beside.{Beside}, block.Block.{Block}, block.Wing.{Wing}, block.Side.{Side}, block.Side.TheVariants.{Front, Back}, limits.Limits.{Limits}}
use Rattle.ulfm_model.specs.declared.{contribution.Contribution.{Contribution}, contribution.Slot.{Slot}}
use Rattle.ulfm_model.specs.History.{Exists, History, members, round_among, same_place, slot}
use Rattle.ulfm_model.specs.{Laws.{all_of}, Words.{first_word, packed, slot_wing, upper_half, wing_word}}

-- each of these members is settled, and this is all that they say together
pub record IsSummed {P : Type 0} (meld : P → P → P) (h : History P) (c k : ℕ) (group : List ℕ) (all : Summary P) : Type 0 where
  pub each : list_all (λ r. is_some (slot h c k r)) group ≡ true
  pub is : all ≡ all_of meld (round_among group h c k)

-- the next width, where there is one more member: twice as wide, if so many are there
abbrev pub wider : ℕ → ℕ → ℕ
wider n zero = 1
wider n (suc w) = if nat_le (2 * suc w) n then 2 * suc w else suc w

-- how many members a block of n has: the greatest power of two that is at most n
abbrev pub width : ℕ → ℕ
width zero = 0
width (suc n) = wider (suc n) (width n)

-- the members of a block: as many as the width, the first or the last
abbrev pub block_of : Side → List ℕ → List ℕ
block_of Front group = take (width (length group)) group
block_of Back group = drop (length group - width (length group)) group

-- a round of these members has this block: the front one if it has members, the back one if the front hasn't all
abbrev pub IsSide : Side → List ℕ → Type 0
IsSide Front group = 0 < length group
IsSide Back group = width (length group) < length group

-- a world of these limits has this block
pub record IsBlockWithin (limits : Limits) (b : Block) : Type 0 where
  pub comm : b.comm < limits.comms
  pub round : b.round < limits.rounds

-- what tells a body's kind in its word
abbrev pub tag_of : {P : Type 0} → Body P → ℕ
tag_of Nothing = 0
tag_of (OfFlags flag) = 1
tag_of (OfIds mask) = 2
tag_of Clash = 3

-- what a body has in its word beside
abbrev pub payload_of : {P : Type 0} → (P → ℕ) → Body P → ℕ
payload_of pack Nothing = 0
payload_of pack (OfFlags flag) = pack flag
payload_of pack (OfIds mask) = mask.bits
payload_of pack Clash = 0

-- the number of a summary, laid out as a slot's
abbrev pub block_number : {P : Type 0} → (P → ℕ) → Summary P → ℕ
block_number pack all = packed (tag_of all.body) all.known.count all.acked.count (payload_of pack all.body)

-- the word of a summary, and its wing
abbrev pub block_word : {P : Type 0} → (P → ℕ) → Summary P → ℕ
block_word pack all = first_word (block_number pack all)

abbrev pub block_wing : {P : Type 0} → (P → ℕ) → Summary P → ℕ
block_wing pack all = wing_word (upper_half (block_number pack all))

-- the round has the block, each member of it is settled, and this is so written of what they say together
pub record IsWritten {P : Type 0} (meld : P → P → P) (written : Summary P → ℕ) (ranks : ℕ) (h : History P) (b : Block) (word : ℕ) : Type 0 where
  pub exists : Exists h b.comm
  pub side : IsSide b.side (members ranks h b.comm)
  pub all : Summary P
  pub summed : IsSummed meld h b.comm b.round (block_of b.side (members ranks h b.comm)) all
  pub word_is : word ≡ written all

-- .. and this is the block's word
abbrev pub IsBlock : {P : Type 0} → (P → P → P) → (P → ℕ) → ℕ → History P → Block → ℕ → Type 0
IsBlock meld pack ranks h b word = IsWritten meld (block_word pack) ranks h b word

-- this is the word of a wing: of a contribution's, or of a block's
abbrev pub IsWing : {P : Type 0} → (P → P → P) → (P → ℕ) → ℕ → History P → Wing → ℕ → Type 0
IsWing {P} meld pack ranks h (Wing.Slot c k r) word =
    (given : Contribution P) × (slot h c k r ≡ Some (Slot.Given given)) × (word ≡ slot_wing pack (Slot.Given given))
IsWing meld pack ranks h (Wing.Block b) word = IsWritten meld (block_wing pack) ranks h b word

-- what may stand at a block: nothing, or the word of its settled members
abbrev pub IsCached : {P : Type 0} → (P → P → P) → (P → ℕ) → ℕ → History P → Block → ℕ → Type 0
IsCached meld pack ranks h b word = (word ≡ 0) ⊎ IsBlock meld pack ranks h b word

abbrev pub same_side : Side → Side → Bool
same_side Front Front = true
same_side Back Back = true
same_side Front Back = false
same_side Back Front = false

-- the two are one block
abbrev pub same_block : Block → Block → Bool
same_block a b = (a.comm == b.comm) && (a.round == b.round) && same_side a.side b.side

-- the two are one wing
abbrev pub same_wing : Wing → Wing → Bool
same_wing (Wing.Slot c k r) (Wing.Slot d l s) = same_place (c, k, r) (d, l, s)
same_wing (Wing.Slot c k r) (Wing.Block b) = false
same_wing (Wing.Block a) (Wing.Slot c k r) = false
same_wing (Wing.Block a) (Wing.Block b) = same_block a b

-- a word that is known to be set is this block's
abbrev pub is_block : Block → Beside → Bool
is_block b (Beside.Block x) = same_block x b
is_block b (Beside.Wing wing word) = false

-- a block's word is among these
abbrev pub has_block : List Beside → Block → Bool
has_block [] b = false
has_block (x ∷ xs) b = is_block b x || has_block xs b

-- a word that is known to be set is this wing's, and is this one
abbrev pub is_wing : Wing → ℕ → Beside → Bool
is_wing wing word (Beside.Block x) = false
is_wing wing word (Beside.Wing x w) = same_wing x wing && (w == word)

-- a wing is among these, with this word
abbrev pub has_wing : List Beside → Wing → ℕ → Bool
has_wing [] wing word = false
has_wing (x ∷ xs) wing word = is_wing wing word x || has_wing xs wing word
