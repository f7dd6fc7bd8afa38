-- No two of all places, blocks and wings have one position in the row of shared words, and all positions are below its length.
use Rattle.std.proofs.Common.{◌≡◌, ◌≢◌, ℕ, ◌+◌, ◌*◌, ◌<◌, refl, ap, sym, ◌∙◌, arith}
use Rattle.std.proofs.lemmas.Nat.{mul-add-lt}
use Rattle.ulfm_model.specs.declared.{block.Block.{Block}, block.Side.{Side}, block.Side.TheVariants.{Front, Back}, block.Wing.{Wing}, limits.Limits.{Limits}}
use Rattle.ulfm_model.specs.declared.{place.Place.{Place}, place.Place.TheVariants.{List as ListAt, Comm as CommAt, Revoked as RevokedAt, Slot as SlotAt, Arrival as ArrivalAt}}
use Rattle.ulfm_model.specs.Blocks.{IsBlockWithin}
use Rattle.ulfm_words.specs.{Places.{IsCell, IsWingWithin, IsWithin}, Rows.{side_key}}
use Rattle.ulfm_words.proofs.Numbering.{IsNumbering, digits, number_in, number_lt, one_number}
use Rattle.ulfm_book.specs.Layout.{block_offset, blocks_from, cell_offset, cell_count, row_length, place_offset, wing_offset}

-- each cell's number is below their count
cell_lt : (limits : Limits) (c k r : ℕ) → IsCell limits c k r → cell_offset limits c k r < cell_count limits
cell_lt limits c k r cell =
    let row : c * limits.rounds + k < limits.rounds * limits.comms = mul-add-lt c limits.rounds k limits.comms cell.comm cell.round in
    let all : (c * limits.rounds + k) * limits.ranks + r < limits.ranks * (limits.rounds * limits.comms) = mul-add-lt (c * limits.rounds + k) limits.ranks r (limits.rounds * limits.comms) row cell.rank in
    omega (arith, all)

-- cells with one number are one
cell_same : (limits : Limits) (c k r d l q : ℕ) → IsCell limits c k r → IsCell limits d l q → cell_offset limits c k r ≡ cell_offset limits d l q → (c ≡ d) × (k ≡ l) × (r ≡ q)
cell_same limits c k r d l q a b e =
    let low = digits limits.ranks (c * limits.rounds + k) r (d * limits.rounds + l) q a.rank b.rank e in
    let high = digits limits.rounds c k d l a.round b.round low.0 in
    (high.0, high.1, low.1)

-- the slots have every other number, and the arrivals come after all of them
abbrev slots : Limits → ℕ → ℕ → ℕ → ℕ
slots limits c k r = 2 * cell_offset limits c k r

abbrev arrivals : Limits → ℕ → ℕ → ℕ → ℕ
arrivals limits c k r = 2 * cell_count limits + cell_offset limits c k r

half : (x y : ℕ) → 2 * x ≡ 2 * y → x ≡ y
half x y e = omega arith

behind : (n x y : ℕ) → n + x ≡ n + y → x ≡ y
behind n x y e = omega arith

-- each cell has its numbers
numbered : (limits : Limits) → IsNumbering limits (3 * cell_count limits) (slots limits) (arrivals limits)
numbered limits = record {
  slots_lt = λ c k r cell. omega (arith, cell_lt limits c k r cell);
  arrivals_lt = λ c k r cell. omega (arith, cell_lt limits c k r cell);
  slots_same = λ c k r d l q a b e. cell_same limits c k r d l q a b (half _ _ e);
  arrivals_same = λ c k r d l q a b e. cell_same limits c k r d l q a b (behind (2 * cell_count limits) _ _ e);
  apart = λ c k r d l q a b e. omega (arith, e, cell_lt limits c k r a);
}

seat_is : (limits : Limits) (p : Place) → place_offset limits p ≡ number_in limits (slots limits) (arrivals limits) p
seat_is limits p = elim p as (λ p. place_offset limits p ≡ number_in limits (slots limits) (arrivals limits) p)
    [ ListAt i ↦ refl | CommAt j ↦ refl | RevokedAt c ↦ refl | SlotAt c k r ↦ refl | ArrivalAt c k r ↦ omega arith ]

-- the positions of places are in front of those of blocks
pub seat_lt : (limits : Limits) (p : Place) → IsWithin limits p → place_offset limits p < blocks_from limits
seat_lt limits p within =
    let lt = number_lt limits (3 * cell_count limits) (slots limits) (arrivals limits) (numbered limits) p within in
    omega (arith, lt, seat_is limits p)

pub seat_in_row : (limits : Limits) (p : Place) → IsWithin limits p → place_offset limits p < row_length limits
seat_in_row limits p within = omega (arith, seat_lt limits p within)

-- places with one position are one
pub one_seat : (limits : Limits) (p q : Place) → IsWithin limits p → IsWithin limits q → place_offset limits p ≡ place_offset limits q → p ≡ q
one_seat limits p q a b e = one_number limits (3 * cell_count limits) (slots limits) (arrivals limits) (numbered limits) p q a b (sym (seat_is limits p) ∙ (e ∙ seat_is limits q))

side_lt : (s : Side) → side_key s < 2
side_lt Front = omega arith
side_lt Back = omega arith

-- a block's position is behind those of all places, and in the row, as its wing's is
behind_block_lt : (limits : Limits) (b : Block) → IsBlockWithin limits b → block_offset limits b + 1 < row_length limits
behind_block_lt limits b within =
    let round : b.comm * limits.rounds + b.round < limits.rounds * limits.comms = mul-add-lt b.comm limits.rounds b.round limits.comms within.comm within.round in
    omega (arith, round, side_lt b.side)

pub block_seat_lt : (limits : Limits) (b : Block) → IsBlockWithin limits b → block_offset limits b < row_length limits
block_seat_lt limits b within = omega (arith, behind_block_lt limits b within)

pub seats_apart : (limits : Limits) (p : Place) (b : Block) → IsWithin limits p → block_offset limits b ≢ place_offset limits p
seats_apart limits p b within same = absurd (omega (arith, same, seat_lt limits p within))

sides : (n x y : ℕ) (s t : Side) → n + 4 * x + 2 * side_key s ≡ n + 4 * y + 2 * side_key t → (x ≡ y) × (s ≡ t)
sides n x y Front Front e = (omega (arith, e), refl)
sides n x y Back Back e = (omega (arith, e), refl)
sides n x y Front Back e = absurd (omega (arith, e))
sides n x y Back Front e = absurd (omega (arith, e))

-- blocks with one position are one
pub one_block_seat : (limits : Limits) (a b : Block) → IsBlockWithin limits a → IsBlockWithin limits b → block_offset limits a ≡ block_offset limits b → a ≡ b
one_block_seat limits a b x y same =
    let s = sides (blocks_from limits) (a.comm * limits.rounds + a.round) (b.comm * limits.rounds + b.round) a.side b.side same in
    let t = digits limits.rounds a.comm a.round b.comm b.round x.round y.round s.0 in
    λ i. record { comm = t.0 i; round = t.1 i; side = s.1 i }

-- a slot's wing is in front of all arrivals
slot_wing_lt : (limits : Limits) (c k r : ℕ) → IsCell limits c k r → wing_offset limits (Wing.Slot c k r) < limits.ranks + 2 * limits.comms + 2 * cell_count limits
slot_wing_lt limits c k r cell = omega (arith, cell_lt limits c k r cell)

pub wing_seat_lt : (limits : Limits) (x : Wing) → IsWingWithin limits x → wing_offset limits x < row_length limits
wing_seat_lt limits (Wing.Slot c k r) cell = omega (arith, slot_wing_lt limits c k r cell)
wing_seat_lt limits (Wing.Block b) within = behind_block_lt limits b within

-- a wing and a place have two positions
odd : (n x y : ℕ) → n + 2 * x + 1 ≡ n + 2 * y → ⊥
odd n x y e = omega (arith, e)

pub wing_apart : (limits : Limits) (x : Wing) (p : Place) → IsWingWithin limits x → IsWithin limits p → wing_offset limits x ≢ place_offset limits p
wing_apart limits (Wing.Slot c k r) (ListAt i) cell within same = omega (arith, same, within)
wing_apart limits (Wing.Slot c k r) (CommAt j) cell within same = omega (arith, same, within.1)
wing_apart limits (Wing.Slot c k r) (RevokedAt d) cell within same = omega (arith, same, within)
wing_apart limits (Wing.Slot c k r) (SlotAt d l q) cell within same = odd (limits.ranks + 2 * limits.comms) (cell_offset limits c k r) (cell_offset limits d l q) same
wing_apart limits (Wing.Slot c k r) (ArrivalAt d l q) cell within same = omega (arith, same, slot_wing_lt limits c k r cell)
wing_apart limits (Wing.Block b) p cell within same = omega (arith, same, seat_lt limits p within)

-- .. and a wing and a block
pub wing_block_apart : (limits : Limits) (x : Wing) (b : Block) → IsWingWithin limits x → wing_offset limits x ≢ block_offset limits b
wing_block_apart limits (Wing.Slot c k r) b cell same = omega (arith, same, slot_wing_lt limits c k r cell)
wing_block_apart limits (Wing.Block a) b cell same = odd (blocks_from limits) (2 * (a.comm * limits.rounds + a.round) + side_key a.side) (2 * (b.comm * limits.rounds + b.round) + side_key b.side) (omega (arith, same))

one_more : (x y : ℕ) → x + 1 ≡ y + 1 → x ≡ y
one_more x y e = omega arith

-- wings with one position are one
pub one_wing_seat : (limits : Limits) (x y : Wing) → IsWingWithin limits x → IsWingWithin limits y → wing_offset limits x ≡ wing_offset limits y → x ≡ y
one_wing_seat limits (Wing.Slot c k r) (Wing.Slot d l q) a b same =
    let e = cell_same limits c k r d l q a b (half _ _ (behind (limits.ranks + 2 * limits.comms) _ _ (one_more _ _ same))) in
    rw (e.0, e.1, e.2) refl
one_wing_seat limits (Wing.Slot c k r) (Wing.Block b) cell within same = absurd (omega (arith, same, slot_wing_lt limits c k r cell))
one_wing_seat limits (Wing.Block b) (Wing.Slot c k r) within cell same = absurd (omega (arith, same, slot_wing_lt limits c k r cell))
one_wing_seat limits (Wing.Block a) (Wing.Block b) within there same = ap Wing.Block (one_block_seat limits a b within there (one_more _ _ same))
