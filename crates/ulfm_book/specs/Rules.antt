-- The one rule over all words, and what each step tells.
use Rattle.std.specs.Prelude.{◌≡◌, ◌≢◌, ℕ, ◌<◌, ◌==◌, Bool, true, false, List, ◌∷◌, [], ◌++◌, length, MatchBool, Some}
use mathlib.Core.List.{IsPrefix}
use Rattle.logbook.specs.Pages.{Book, Cell, Named, Step as Ask, View, cell}
use Rattle.ulfm_model.specs.declared.{block.Block.{Block}, block.Wing.{Wing}, contribution.Contribution.{Contribution}, contribution.Slot.{Slot}, limits.Limits.{Limits}, limits.OpenFault.{OpenFault}}
use Rattle.ulfm_model.specs.declared.limits.OpenFault.TheVariants.{OutOfRange, TooLarge, OutOfMemory}
use Rattle.ulfm_model.specs.declared.{place.Place.{Place}}
use Rattle.ulfm_model.specs.{Blocks.{IsBlockWithin, IsCached, IsWing, has_block, has_wing}, History.{slot}, Words.{IsUnfit, MayOpen, word_at}}
use Rattle.ulfm_words.specs.declared.step.Last.{Last}
use Rattle.ulfm_words.specs.{Besides.{AreBeside, Written}, Blocks.{WasWing}, Pass.{caches_in, last_of}, Places.{IsWingWithin, IsWithin}, Steps.{Heard, Name, Sight}}
use Rattle.ulfm_book.specs.declared.line.Line.{Line}
use Rattle.ulfm_book.specs.{Logs.{IsLog, cached_in, history_in, limits_in, written_in}, Layout.{block_offset, row_length, place_offset, wing_offset}}

-- the number under a key
abbrev pub number_at : List Cell → ℕ → ℕ
number_at cells key = (cell cells key).0

-- What stands at blocks and at wings is as it must be, and each such word that isn't 0 is listed, a wing's with the word itself.
pub record AreListed {P : Type 0} (meld : P → P → P) (pack : P → ℕ) (of : Written P) (block : Block → ℕ) (wing : Wing → ℕ) : Type 0 where
  pub beside : AreBeside meld pack of block wing
  pub blocks : (b : Block) → IsBlockWithin of.limits b → block b ≢ 0 → has_block of.cached b ≡ true
  pub wings : (x : Wing) → IsWingWithin of.limits x → wing x ≢ 0 → has_wing of.cached x (wing x) ≡ true

-- There is a word for each place, each block and each wing of the limits, and each place's is the word that the history has there.
-- That word is 0 exactly where no event of the history sets it, and otherwise is that event's word; the i-th failure sets place i of
-- the list, and the spawn of communicator j sets place j of the communicators. The words of blocks and the wings are listed.
pub record AreWords {P : Type 0} (meld : P → P → P) (pack : P → ℕ) (of : Written P) (cells : List Cell) : Type 0 where
  pub size : length cells ≡ row_length of.limits
  pub home : (key : ℕ) → key < row_length of.limits → (cell cells key).1 ≡ true
  pub places : (p : Place) → IsWithin of.limits p → number_at cells (place_offset of.limits p) ≡ word_at pack of.seen p
  pub listed : AreListed meld pack of (λ b. number_at cells (block_offset of.limits b)) (λ x. number_at cells (wing_offset of.limits x))

-- the one rule: the log is legal, and the words are those of its limits, its history, and its blocks and wings
pub record Represents {P : Type 0} (meld : P → P → P) (pack : P → ℕ) (cells : List Cell) (log : List (Line P)) : Type 0 where
  pub is_log : IsLog meld log
  pub words : AreWords meld pack (written_in log) cells

-- the name of the words of a book, and the book of such a name
abbrev pub name_of : Book → Limits → Name
name_of book limits = record { number = book.number; log = book.log_name; cells = book.cells_name; limits = limits }

abbrev pub book_of : Name → Book
book_of name = record { number = name.number; log_name = name.log; cells_name = name.cells }

-- the word of a book that has this key
abbrev pub word_named : Book → ℕ → Named
word_named book key = record { tracked = true; key = key; book = book }

-- what contracts see of a pass, and of a told value
abbrev pub sight_of : {P : Type 0} → Book → List (Line P) → List (Last × Bool) → Sight P
sight_of book log trail =
    record {
      name = name_of book (limits_in log);
      seen = history_in log;
      cached = cached_in log;
      caches = caches_in trail;
      steps = length trail;
      last = last_of trail;
    }

abbrev pub heard_of : {P : Type 0} → Book → List (Line P) → Heard P
heard_of book log = record { name = name_of book (limits_in log); seen = history_in log; cached = cached_in log }

-- a log that goes on from what was seen
pub record Extends {P : Type 0} (meld : P → P → P) (old new : List (Line P)) : Type 0 where
  pub limits : limits_in new ≡ limits_in old
  pub history : IsPrefix (history_in old) (history_in new)
  pub cached : IsPrefix (cached_in old) (cached_in new)
  pub is_log : IsLog meld new

-- the word found under a key is that of the log's history
abbrev pub IsFound : {P : Type 0} → (P → ℕ) → ℕ → ℕ → List (Line P) → Type 0
IsFound pack key found log = (p : Place) → IsWithin (limits_in log) p → key ≡ place_offset (limits_in log) p → word_at pack (history_in log) p ≡ found

-- a load sees the log, and the word that its history has
abbrev pub Looks : {P : Type 0} → (P → P → P) → (P → ℕ) → Ask (Line P) → View (Line P) ℕ → ℕ → View (Line P) ℕ → Type 0
Looks meld pack ask old found new = Extends meld old.0 new.0 × IsFound pack ask.key found new.0

-- the line came last, in a log that goes on from what was seen
pub record IsLast {P : Type 0} (meld : P → P → P) (line : Line P) (old new : List (Line P)) : Type 0 where
  pub before : List (Line P)
  pub sees : Extends meld old before
  pub is : new ≡ before ++ line ∷ []

-- an exchange that found this was won where that is 0, and then its event came last; or it sees the word that stands
abbrev pub IsExchanged : {P : Type 0} → (P → P → P) → (P → ℕ) → Ask (Line P) → List (Line P) → ℕ → List (Line P) → Type 0
IsExchanged meld pack ask old found new =
    MatchBool (found == 0) (IsLast meld ask.ask old new × IsFound pack ask.key ask.new new) (IsFound pack ask.key found new)

-- .. and it sees the log
abbrev pub Exchanges : {P : Type 0} → (P → P → P) → (P → ℕ) → Ask (Line P) → View (Line P) ℕ → ℕ → View (Line P) ℕ → Type 0
Exchanges meld pack ask old found new = Extends meld old.0 new.0 × IsExchanged meld pack ask old.0 found new.0

-- This is a block's word: 0 exactly where the log doesn't have the block, and otherwise that of what its members say together,
-- each of whom is settled in the log's history.
pub record IsOfBlock {P : Type 0} (meld : P → P → P) (pack : P → ℕ) (log : List (Line P)) (b : Block) (word : ℕ) : Type 0 where
  pub stands : IsCached meld pack (limits_in log).ranks (history_in log) b word
  pub unset : word ≡ 0 → has_block (cached_in log) b ≡ false
  pub set : word ≢ 0 → has_block (cached_in log) b ≡ true

-- the number found under a key is that block's word in the log
abbrev pub IsBlockFound : {P : Type 0} → (P → P → P) → (P → ℕ) → ℕ → ℕ → List (Line P) → Type 0
IsBlockFound meld pack key found log = (b : Block) → IsBlockWithin (limits_in log) b → key ≡ block_offset (limits_in log) b → IsOfBlock meld pack log b found

-- a load of a block's word sees the log, and what stands there
abbrev pub LooksBlock : {P : Type 0} → (P → P → P) → (P → ℕ) → Ask (Line P) → View (Line P) ℕ → ℕ → View (Line P) ℕ → Type 0
LooksBlock meld pack ask old found new = Extends meld old.0 new.0 × IsBlockFound meld pack ask.key found new.0

-- The block is set after an exchange that found this. Where that was 0, it wasn't set when the caller last looked; else the
-- word that was to be set stands.
pub record IsAddedBlock {P : Type 0} (word found : ℕ) (b : Block) (old new : List (Line P)) : Type 0 where
  pub set : has_block (cached_in new) b ≡ true
  pub won : found ≡ 0 → has_block (cached_in old) b ≡ false
  pub lost : found ≢ 0 → found ≡ word

-- so it is of the block with this key
abbrev pub IsBlockAdded : {P : Type 0} → ℕ → ℕ → ℕ → List (Line P) → List (Line P) → Type 0
IsBlockAdded key word found old new = (b : Block) → IsBlockWithin (limits_in new) b → key ≡ block_offset (limits_in new) b → IsAddedBlock word found b old new

-- an exchange of a block's word sees the log, which has the block then
abbrev pub AddsBlock : {P : Type 0} → (P → P → P) → Ask (Line P) → View (Line P) ℕ → ℕ → View (Line P) ℕ → Type 0
AddsBlock meld ask old found new = Extends meld old.0 new.0 × IsBlockAdded ask.key ask.new found old.0 new.0

-- the log has what a wing stands beside: a contribution, or a block
abbrev pub IsSpreadIn : {P : Type 0} → List (Line P) → Wing → Type 0
IsSpreadIn {P} log (Wing.Slot c k r) = (given : Contribution P) × (slot (history_in log) c k r ≡ Some (Slot.Given given))
IsSpreadIn log (Wing.Block b) = has_block (cached_in log) b ≡ true

-- the number found under a key is the wing of what stands beside it in the log
abbrev pub IsWingFound : {P : Type 0} → (P → P → P) → (P → ℕ) → ℕ → ℕ → List (Line P) → Type 0
IsWingFound meld pack key found log =
    (x : Wing) → IsWingWithin (limits_in log) x → key ≡ wing_offset (limits_in log) x → IsSpreadIn log x
    → IsWing meld pack (limits_in log).ranks (history_in log) x found

-- a load of a wing sees the log, and the wing of what stands beside it
abbrev pub LooksWing : {P : Type 0} → (P → P → P) → (P → ℕ) → Ask (Line P) → View (Line P) ℕ → ℕ → View (Line P) ℕ → Type 0
LooksWing meld pack ask old found new = Extends meld old.0 new.0 × IsWingFound meld pack ask.key found new.0

-- The log has the wing after an exchange that found this: where that was 0, with the word that was to be set, and else with the one that
-- stood, which of a block's is the same.
pub record IsAddedWing {P : Type 0} (word found : ℕ) (x : Wing) (new : List (Line P)) : Type 0 where
  pub won : found ≡ 0 → (has_wing (cached_in new) x word ≡ true) × (0 < word)
  pub lost : found ≢ 0 → (has_wing (cached_in new) x found ≡ true) × WasWing x word found

-- so it is of the wing with this key
abbrev pub IsWingAdded : {P : Type 0} → ℕ → ℕ → ℕ → List (Line P) → Type 0
IsWingAdded key word found new = (x : Wing) → IsWingWithin (limits_in new) x → key ≡ wing_offset (limits_in new) x → IsAddedWing word found x new

-- an exchange of a wing sees the log, which has the wing then
abbrev pub AddsWing : {P : Type 0} → (P → P → P) → Ask (Line P) → View (Line P) ℕ → ℕ → View (Line P) ℕ → Type 0
AddsWing meld ask old found new = Extends meld old.0 new.0 × IsWingAdded ask.key ask.new found new.0

-- a fault of opening: the first that the limits have, or that memory was refused to limits that have none
abbrev pub IsFault : Limits → OpenFault → Type 0
IsFault limits OutOfMemory = MayOpen limits
IsFault limits OutOfRange = IsUnfit limits OutOfRange
IsFault limits TooLarge = IsUnfit limits TooLarge
