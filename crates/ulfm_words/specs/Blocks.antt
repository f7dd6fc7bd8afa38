-- Blocks' words: which summary each stands for, where plain ones stand, and what each step on them does.
use Rattle.std.specs.Prelude.{◌≡◌, ◌≢◌, ℕ, ◌+◌, ◌%◌, ◌^◌, ◌<◌, ◌≤◌, Bool, true, false, List, ◌∷◌, ◌++◌, [], Option, Some, None, Ok, Err, MatchResult, IsTrue, ⊤}
use Rattle.std.specs.List.{Contains}
use mathlib.Core.List.{IsPrefix}
use Rattle.ulfm_laws.specs.declared.{summary.Body.{Body}, summary.Body.TheVariants.{Unit as Nothing, Flag as OfFlags, Ctx as OfIds, Clash}}
use Rattle.ulfm_laws.specs.declared.summary.Summary.{Summary}
use Rattle.ulfm_model.specs.declared.{block.Block.{Block}, block.Wing.{Wing}, contribution.Contribution.{Contribution}, contribution.MarkCount.{MarkCount}, contribution.Slot.{Slot}}
use Rattle.ulfm_model.specs.{Blocks.{IsBlock, IsCached, IsSide, IsSummed, IsWing, block_of, block_wing, block_word, has_block, has_wing}, History.{Exists, History, IsPlace, members, slot}}
use Rattle.ulfm_model.specs.{Laws.{all_of, summary_of}, Words.{slot_word, word_bits}}
use Rattle.ulfm_model.specs.Runs.{Did}
use Rattle.ulfm_words.specs.declared.{accesses.Found.{Found}, step.Site.{Site}}
use Rattle.ulfm_words.specs.{Slots.{IsExact, acked_in, half_in, is_wing_word, known_in, number_bits, number_in, payload_in, tag_in}, Steps.{Exchanged, IsView, View, found}}

-- the body with this tag and this payload
abbrev pub IsBodyOf : {P : Type 0} → (ℕ → Option P) → ℕ → ℕ → Body P → Type 0
IsBodyOf unpack tag payload Nothing = (tag ≡ 0) × (payload ≡ 0)
IsBodyOf unpack tag payload (OfFlags flag) = (tag ≡ 1) × (unpack payload ≡ Some flag)
IsBodyOf unpack tag payload (OfIds mask) = (tag ≡ 2) × (mask.bits ≡ payload)
IsBodyOf unpack tag payload Clash = (tag ≡ 3) × (payload ≡ 0)

-- marks alone know of a failure and acknowledge everyone; where somebody contributed, no more is acknowledged than is known of
abbrev pub FitsBody : {P : Type 0} → Body P → ℕ → ℕ → Type 0
FitsBody Nothing known acked = (0 < known) × (acked ≡ 2047)
FitsBody (OfFlags flag) known acked = acked ≤ known
FitsBody (OfIds mask) known acked = acked ≤ known
FitsBody Clash known acked = acked ≤ known

-- what at least one settled member may say
abbrev pub IsOfSome : {P : Type 0} → Summary P → Type 0
IsOfSome all = FitsBody all.body all.known.count all.acked.count

-- the number of a block stands for this summary
pub record IsNumberOf {P : Type 0} (unpack : ℕ → Option P) (w : ℕ) (all : Summary P) : Type 0 where
  pub first_bit : w % 2 ≡ 1
  pub last_bits : w < 2 ^ number_bits
  pub known : all.known.count ≡ known_in w
  pub acked : all.acked.count ≡ acked_in w
  pub body : IsBodyOf unpack (tag_in w) (payload_in w) all.body
  pub fits : IsOfSome all

-- the word of a block and its wing stand for this summary
pub record IsPairOf {P : Type 0} (unpack : ℕ → Option P) (word wing : ℕ) (all : Summary P) : Type 0 where
  pub first : word < 2 ^ word_bits
  pub second : is_wing_word wing ≡ true
  pub number : IsNumberOf unpack (number_in word (half_in wing)) all

-- a payload that ranks agree on
abbrev pub IsFlagBody : {P : Type 0} → Body P → Type 0
IsFlagBody (OfFlags flag) = Unit {0}
IsFlagBody _ = ⊥

-- what at least one settled member may say has a word and a wing that stand for it
abbrev pub BlocksAreRead : {P : Type 0} → (P → ℕ) → (ℕ → Option P) → Type 0
BlocksAreRead {P} pack unpack =
    (all : Summary P) → IsOfSome all → IsPairOf unpack (block_word pack all) (block_wing pack all) all

-- .. as what a slot and any further ones say together is
abbrev pub SlotsAreOfSome : {P : Type 0} → (P → P → P) → Type 0
SlotsAreOfSome {P} meld = (s : Slot P) (more : List (Slot P)) → IsOfSome (all_of meld (s ∷ more))

-- a word and a wing stand for one summary, and are those of it, where each payload is the packing of what it unpacks to
abbrev pub BlocksHaveOneWord : {P : Type 0} → (P → ℕ) → (ℕ → Option P) → Type 0
BlocksHaveOneWord {P} pack unpack =
    (word wing : ℕ) (all : Summary P) → IsPairOf unpack word wing all
    → ((other : Summary P) → IsPairOf unpack word wing other → other ≡ all)
    × ((IsFlagBody all.body → IsExact pack unpack) → (block_word pack all ≡ word) × (block_wing pack all ≡ wing))

-- one atomic load of a word that no event sets, and what this word is
pub record LoadsBeside {P : Type 0} (meld : P → P → P) (alone : Bool) (at : Site) (word : ℕ) (Is : Type 0) (old new : View P) : Type 0 where
  pub of : IsView meld new
  pub did : Did alone [] old.pass.seen new.pass.seen
  pub cached : IsPrefix old.pass.cached new.pass.cached
  pub caches : new.pass.caches ≡ old.pass.caches
  pub steps : new.pass.steps ≡ old.pass.steps + 1
  pub last : new.pass.last ≡ Some (record { at = at; word = word; load = true })
  pub stands : Is

-- a block's word: 0 where the block isn't among those that are set, or the word of its settled members
pub record IsLoadedBlock {P : Type 0} (meld : P → P → P) (pack : P → ℕ) (block : Block) (word : ℕ) (view : View P) : Type 0 where
  pub cached : IsCached meld pack view.words.limits.ranks view.pass.seen block word
  pub unset : word ≡ 0 → has_block view.pass.cached block ≡ false
  pub set : word ≢ 0 → has_block view.pass.cached block ≡ true

-- one atomic load of a block's word
abbrev pub LoadsBlock : {P : Type 0} → (P → P → P) → (P → ℕ) → Bool → Block → ℕ → View P → View P → Type 0
LoadsBlock meld pack alone block word old new = LoadsBeside meld alone (Site.Block block) word (IsLoadedBlock meld pack block word new) old new

-- what a wing must be for a load of it: a contribution's, or that of a block that is known to be set
abbrev pub IsSpread : {P : Type 0} → View P → Wing → Type 0
IsSpread {P} view (Wing.Slot c k r) = (given : Contribution P) × (slot view.pass.seen c k r ≡ Some (Slot.Given given))
IsSpread view (Wing.Block b) = has_block view.pass.cached b ≡ true

-- one atomic load of a wing: the word of what stands beside it
abbrev pub LoadsWing : {P : Type 0} → (P → P → P) → (P → ℕ) → Bool → Wing → ℕ → View P → View P → Type 0
LoadsWing meld pack alone wing word old new =
    LoadsBeside meld alone (Site.Wing wing) word (IsWing meld pack new.words.limits.ranks new.pass.seen wing word) old new

-- when a caller may set a wing so: a member's, to a half; or that of a block whose members are all settled, to theirs
abbrev pub MaySetWing : {P : Type 0} → (P → P → P) → (P → ℕ) → View P → Wing → ℕ → Type 0
MaySetWing meld pack view (Wing.Slot c k r) word = IsPlace view.words.limits view.pass.seen c k r × (is_wing_word word ≡ true)
MaySetWing meld pack view (Wing.Block b) word = IsWing meld pack view.words.limits.ranks view.pass.seen (Wing.Block b) word

-- the word that stands at a wing after an exchange
abbrev pub standing : ℕ → Exchanged → ℕ
standing word (Ok _) = word
standing word (Err w) = w

-- a wing that was set before: a block's had the same word
abbrev pub WasWing : Wing → ℕ → ℕ → Type 0
WasWing (Wing.Slot c k r) word w = ⊤
WasWing (Wing.Block b) word w = w ≡ word

-- one compare-exchange from 0 of a word that no event sets, the word that is noted behind it, and what is known then
pub record TriesBeside {P : Type 0} (meld : P → P → P) (alone : Bool) (at : Site) (word : ℕ) (Is : Type 0) (old new : View P) : Type 0 where
  pub of : IsView meld new
  pub did : Did alone [] old.pass.seen new.pass.seen
  pub cached : IsPrefix old.pass.cached new.pass.cached
  pub caches : new.pass.caches ≡ old.pass.caches ++ at ∷ []
  pub steps : new.pass.steps ≡ old.pass.steps + 1
  pub last : new.pass.last ≡ Some (record { at = at; word = word; load = false })
  pub stands : Is

-- A wing after an exchange: it is known to be set, to this word or to the one that stood. Where nobody else steps, one that stood was tried before.
pub record IsWingSet {P : Type 0} (alone : Bool) (wing : Wing) (word : ℕ) (old : View P) (result : Exchanged) (new : View P) : Type 0 where
  pub set : has_wing new.pass.cached wing (standing word result) ≡ true
  pub some : 0 < standing word result
  pub was : MatchResult result (λ _. ⊤) (WasWing wing word)
  pub before : IsTrue alone → MatchResult result (λ _. ⊤) (λ w. Contains old.pass.caches (Site.Wing wing))

-- one compare-exchange of a wing from 0
abbrev pub SetsWing : {P : Type 0} → (P → P → P) → Bool → Wing → ℕ → View P → Exchanged → View P → Type 0
SetsWing meld alone wing word old result new =
    TriesBeside meld alone (Site.Wing wing) (standing word result) (IsWingSet alone wing word old result new) old new

-- a block's wing is known to be set
abbrev pub IsSpreadBlock : {P : Type 0} → View P → Block → Type 0
IsSpreadBlock view b = (w : ℕ) × (0 < w) × (has_wing view.pass.cached (Wing.Block b) w ≡ true)

-- a block after an exchange of its word: it is set, by this step or with the same word before
pub record IsBlockSet {P : Type 0} (block : Block) (word : ℕ) (old : View P) (result : Exchanged) (new : View P) : Type 0 where
  pub set : has_block new.pass.cached block ≡ true
  pub stood : MatchResult result (λ _. has_block old.pass.cached block ≡ false) (λ w. w ≡ word)

-- one compare-exchange of a block's word from 0
abbrev pub Caches : {P : Type 0} → (P → P → P) → Bool → Block → ℕ → View P → Exchanged → View P → Type 0
Caches meld alone block word old result new =
    TriesBeside meld alone (Site.Block block) (found result) (IsBlockSet block word old result new) old new

-- the round has the block, and this is what its members say together, each of whom is settled
pub record BlockSays {P : Type 0} (meld : P → P → P) (ranks : ℕ) (h : History P) (b : Block) (all : Summary P) : Type 0 where
  pub exists : Exists h b.comm
  pub side : IsSide b.side (members ranks h b.comm)
  pub summed : IsSummed meld h b.comm b.round (block_of b.side (members ranks h b.comm)) all

-- the member has contributed, and this is the first word of that
abbrev pub IsFirstOf : {P : Type 0} → (P → ℕ) → Option (Slot P) → ℕ → Type 0
IsFirstOf {P} pack put word = (given : Contribution P) × (put ≡ Some (Slot.Given given)) × (word ≡ slot_word pack (Slot.Given given))

-- what a load of a member's place finds there: nothing, a mark and what that says, or the first word of a contribution
abbrev pub FindsSlot : {P : Type 0} → (P → ℕ) → Option (Slot P) → Found P → Type 0
FindsSlot pack put Found.Nothing = put ≡ None
FindsSlot pack put (Found.Marked all) = (mark : MarkCount) × (put ≡ Some (Slot.Mark mark)) × (all ≡ summary_of (Slot.Mark mark))
FindsSlot pack put (Found.First word) = IsFirstOf pack put word

-- as a view's pass has seen it, the round has the block, and this is what its members say together
abbrev pub BlockSaysIn : {P : Type 0} → (P → P → P) → View P → Block → Summary P → Type 0
BlockSaysIn meld view b = BlockSays meld view.words.limits.ranks view.pass.seen b

-- .. and this is the word of what they say together
abbrev pub IsBlockIn : {P : Type 0} → (P → P → P) → (P → ℕ) → View P → Block → ℕ → Type 0
IsBlockIn meld pack view b word = IsBlock meld pack view.words.limits.ranks view.pass.seen b word

-- one atomic load of a block, and whether it is set
pub record Peeks {P : Type 0} (meld : P → P → P) (alone : Bool) (block : Block) (set : Bool) (old new : View P) : Type 0 where
  pub of : IsView meld new
  pub did : Did alone [] old.pass.seen new.pass.seen
  pub cached : IsPrefix old.pass.cached new.pass.cached
  pub caches : new.pass.caches ≡ old.pass.caches
  pub steps : new.pass.steps ≡ old.pass.steps + 1
  pub word : ℕ
  pub last : new.pass.last ≡ Some (record { at = Site.Block block; word = word; load = true })
  pub unset : set ≡ false → word ≡ 0
  pub known : has_block new.pass.cached block ≡ set
