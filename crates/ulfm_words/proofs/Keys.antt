-- Two places have two keys, all below the size of the row.
use Rattle.std.proofs.Common.{◌≡◌, ℕ, ◌+◌, ◌*◌, ◌<◌, List, refl, sym, ◌∙◌, subst, arith}
use Rattle.std.proofs.Math.Nat.{mul-le-mul_right}
use Rattle.std.proofs.lemmas.Nat.{mul-add-lt}
use Rattle.ulfm_model.specs.declared.{block.Block.{Block}, limits.Limits.{Limits}, place.Place.{Place}, place.Place.TheVariants.{List as ListAt, Comm as CommAt, Revoked as RevokedAt, Slot as SlotAt, Arrival as ArrivalAt}}
use Rattle.ulfm_model.specs.{Blocks.{IsBlockWithin}, Words.{MayOpen, size_of}}
use Rattle.ulfm_words.specs.{Places.{IsWithin, cell_in, key_in}, Rows.{Filled, heads_of, lines_of}}
use Rattle.ulfm_words.proofs.Numbering.{IsNumbering, cells, digits, number_in, number_lt, one_number, size_is}

cell_lt : (limits : Limits) (line c r : ℕ) → line < 2 * limits.rounds → c < limits.comms → r < limits.ranks → cell_in limits line c r < 2 * cells limits
cell_lt limits line c r line_lt c_lt r_lt =
    let row : line * limits.comms + c < limits.comms * (2 * limits.rounds) = mul-add-lt line limits.comms c (2 * limits.rounds) line_lt c_lt in
    let all : (line * limits.comms + c) * limits.ranks + r < limits.ranks * (limits.comms * (2 * limits.rounds)) = mul-add-lt (line * limits.comms + c) limits.ranks r (limits.comms * (2 * limits.rounds)) row r_lt in
    omega (arith, all)

cell_same : (limits : Limits) (k c r l d q : ℕ) → c < limits.comms → r < limits.ranks → d < limits.comms → q < limits.ranks → cell_in limits k c r ≡ cell_in limits l d q → (k ≡ l) × (c ≡ d) × (r ≡ q)
cell_same limits k c r l d q c_lt r_lt d_lt q_lt e =
    let low = digits limits.ranks (k * limits.comms + c) r (l * limits.comms + d) q r_lt q_lt e in
    let high = digits limits.comms k c l d c_lt d_lt low.0 in
    (high.0, high.1, low.1)

-- the line of slots of a round and that of arrivals
abbrev slots : Limits → ℕ → ℕ → ℕ → ℕ
slots limits c k r = cell_in limits (2 * k) c r

abbrev arrivals : Limits → ℕ → ℕ → ℕ → ℕ
arrivals limits c k r = cell_in limits (2 * k + 1) c r

-- line by line, each cell has its number
numbered : (limits : Limits) → IsNumbering limits (2 * cells limits) (slots limits) (arrivals limits)
numbered limits = record {
  slots_lt = λ c k r cell. cell_lt limits (2 * k) c r (omega (arith, cell.round)) cell.comm cell.rank;
  arrivals_lt = λ c k r cell. cell_lt limits (2 * k + 1) c r (omega (arith, cell.round)) cell.comm cell.rank;
  slots_same = λ c k r d l q a b e.
      (let same = cell_same limits (2 * k) c r (2 * l) d q a.comm a.rank b.comm b.rank e in (same.1, omega (arith, same.0), same.2));
  arrivals_same = λ c k r d l q a b e.
      (let same = cell_same limits (2 * k + 1) c r (2 * l + 1) d q a.comm a.rank b.comm b.rank e in (same.1, omega (arith, same.0), same.2));
  apart = λ c k r d l q a b e. (let same = cell_same limits (2 * k) c r (2 * l + 1) d q a.comm a.rank b.comm b.rank e in omega (arith, same.0));
}

key_is : (limits : Limits) (p : Place) → key_in limits p ≡ number_in limits (slots limits) (arrivals limits) p
key_is limits p = elim p as (λ p. key_in limits p ≡ number_in limits (slots limits) (arrivals limits) p)
    [ ListAt i ↦ refl | CommAt j ↦ refl | RevokedAt c ↦ refl | SlotAt c k r ↦ refl | ArrivalAt c k r ↦ refl ]

-- each key is below the size of the row
pub key_lt : (limits : Limits) (p : Place) → IsWithin limits p → key_in limits p < size_of limits
key_lt limits p within =
    let lt = number_lt limits (2 * cells limits) (slots limits) (arrivals limits) (numbered limits) p within in
    omega (arith, lt, key_is limits p, size_is limits)

-- places with one key are one
pub one_key : (limits : Limits) (p q : Place) → IsWithin limits p → IsWithin limits q → key_in limits p ≡ key_in limits q → p ≡ q
one_key limits p q a b e = one_number limits (2 * cells limits) (slots limits) (arrivals limits) (numbered limits) p q a b (sym (key_is limits p) ∙ (e ∙ key_is limits q))

-- the row has the words that come first, and those of all lines
pub row_size : (limits : Limits) → heads_of limits + lines_of limits * limits.ranks ≡ size_of limits
row_size limits = omega arith

-- a block's place is small, in a row of which contracts see this
pub block_small : (limits : Limits) (words : List ℕ) (seen : Filled) (b : Block) → (let r : Filled = record { limits = limits; words = words } in r) ≡ seen → MayOpen limits → IsBlockWithin seen.limits b → b.round * limits.comms + b.comm < 1048576
block_small limits words seen b is may within =
    let here : IsBlockWithin limits b = subst (λ (r : Filled). IsBlockWithin r.limits b) (sym is) within in
    let row = mul-add-lt b.round limits.comms b.comm limits.rounds here.round here.comm in
    let all = mul-le-mul_right limits.rounds may.in_range.comms in
    omega (arith, row, all, may.in_range.rounds)
