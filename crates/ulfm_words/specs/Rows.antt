-- A row of words, of which those of rounds are made line by line.
use Rattle.std.specs.Prelude.{◌≡◌, ◌≢◌, ℕ, ◌+◌, ◌*◌, ◌/◌, ◌%◌, ◌≤◌, ◌<◌, ◌==◌, Bool, not, List, ◌++◌, length, map, count_by, slice_index}
use Rattle.std.specs.List.{range_with_len}
use Rattle.ulfm_model.specs.declared.{block.Block.{Block}, block.Side.{Side}, block.Side.TheVariants.{Front, Back}, block.Wing.{Wing}}
use Rattle.ulfm_model.specs.{Words.{size_of}, declared.{limits.Limits.{Limits}, place.Place.{Place}}}
use Rattle.ulfm_words.specs.declared.plain.Seat.{Seat}
use Rattle.ulfm_words.specs.declared.plain.Seat.TheVariants.{Head, Cell}
use Rattle.ulfm_words.specs.Places.{key_in}

-- the words that come first in a row: those of the lists and the revocations
abbrev pub heads_of : Limits → ℕ
heads_of limits = limits.ranks + 2 * limits.comms

-- each round has a line of slots and one of arrivals for each communicator, with a word for each rank
abbrev pub lines_of : Limits → ℕ
lines_of limits = limits.comms * (2 * limits.rounds)

-- the word of a cell, counted through all lines: where its line begins is looked up
abbrev pub word_in : ℕ → List ℕ → List ℕ → ℕ → ℕ
word_in ranks starts words cell = slice_index words (slice_index starts (cell / ranks) + cell % ranks)

-- the words of all lines, in order
abbrev pub cells_of : ℕ → List ℕ → List ℕ → List ℕ
cells_of ranks starts words = map (word_in ranks starts words) (range_with_len 0 (length starts * ranks))

-- the words of a row, in the order of their keys
abbrev pub row_of : ℕ → List ℕ → List ℕ → List ℕ → List ℕ
row_of ranks heads starts words = heads ++ cells_of ranks starts words

-- a line was made, by where it begins
abbrev pub is_made_line : ℕ → Bool
is_made_line start = not (start == 0)

-- The words that stand first are never set: they stand for each line that wasn't made. Each line that was has words of its own.
-- There is room for all, and their places are small.
pub record AreLines (ranks : ℕ) (starts words : List ℕ) (capacity : ℕ) : Type 0 where
  pub some : 0 < ranks
  pub zeros : (i : ℕ) → i < ranks → slice_index words i ≡ 0
  pub made : length words ≡ (count_by is_made_line starts + 1) * ranks
  pub below : (i : ℕ) → slice_index starts i + ranks ≤ length words
  pub own : (i j r s : ℕ) → r < ranks → s < ranks → slice_index starts i + r ≡ slice_index starts j + s → slice_index starts i ≢ 0 → i ≡ j
  pub past : (i : ℕ) → slice_index starts i ≢ 0 → ranks ≤ slice_index starts i
  pub room : (length starts + 1) * ranks ≤ capacity
  pub few : (length starts + 1) * ranks < 4294967296

-- a row has all words that come first, and each line, made or not
pub record IsRow (limits : Limits) (heads starts words : List ℕ) (capacity : ℕ) : Type 0 where
  pub first : length heads ≡ heads_of limits
  pub lines : length starts ≡ lines_of limits
  pub made : AreLines limits.ranks starts words capacity

-- the seat of a place: among the words that come first by its key, or in a line by its rank
abbrev pub HasSeat : Limits → Place → Seat → Type 0
HasSeat limits place (Head index) = (index ≡ key_in limits place) × (index < heads_of limits)
HasSeat limits place (Cell line rank) =
    (key_in limits place ≡ heads_of limits + (line * limits.ranks + rank)) × (line < lines_of limits) × (rank < limits.ranks)

-- what contracts see of a row: the words by their keys
pub record Filled : Type 0 where
  pub limits : Limits
  pub words : List ℕ

-- where a block's word stands, in a row of two for each round of each communicator
abbrev pub side_key : Side → ℕ
side_key Front = 0
side_key Back = 1

abbrev pub block_key : Limits → Block → ℕ
block_key limits b = 2 * (b.round * limits.comms + b.comm) + side_key b.side

-- what contracts see of the words that no event sets
pub record SideWords : Type 0 where
  pub limits : Limits
  pub wings : List ℕ
  pub words : List ℕ

-- the word of a block, in a row of four for each round of each communicator
abbrev pub block_in : SideWords → Block → ℕ
block_in sides b = slice_index sides.words (2 * block_key sides.limits b)

-- the word of a wing: of a slot in a row where each has its slot's key, of a block behind the block's word
abbrev pub wing_in : SideWords → Wing → ℕ
wing_in sides (Wing.Slot c k r) = slice_index sides.wings (key_in sides.limits (Place.Slot c k r))
wing_in sides (Wing.Block b) = slice_index sides.words (2 * block_key sides.limits b + 1)

-- both rows have all their words
pub record IsSideRow (limits : Limits) (wings words : List ℕ) : Type 0 where
  pub wings_size : length wings ≡ size_of limits
  pub size : length words ≡ 4 * (limits.rounds * limits.comms)
