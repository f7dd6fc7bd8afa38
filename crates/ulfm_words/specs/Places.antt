-- The places of words, and where each stands in the row of all words.
use Rattle.std.specs.Prelude.{◌≡◌, ℕ, ◌+◌, ◌*◌, ◌<◌}
use Rattle.ulfm_model.specs.declared.{limits.Limits.{Limits}, place.Place.{Place}}
use Rattle.ulfm_model.specs.declared.{place.Place.TheVariants.{List as ListAt, Comm as CommAt, Revoked as RevokedAt, Slot as SlotAt, Arrival as ArrivalAt}}
use Rattle.ulfm_model.specs.declared.{block.Wing.{Wing}}
use Rattle.ulfm_model.specs.{Blocks.{IsBlockWithin}, Words.{size_of}}

-- a rank's place in a round of a communicator
pub record IsCell (limits : Limits) (c k r : ℕ) : Type 0 where
  pub comm : c < limits.comms
  pub round : k < limits.rounds
  pub rank : r < limits.ranks

-- a world of these limits has this place
abbrev pub IsWithin : Limits → Place → Type 0
IsWithin limits (ListAt i) = i < limits.ranks
IsWithin limits (CommAt j) = (0 < j) × (j < limits.comms)
IsWithin limits (RevokedAt c) = c < limits.comms
IsWithin limits (SlotAt c k r) = IsCell limits c k r
IsWithin limits (ArrivalAt c k r) = IsCell limits c k r

-- a world of these limits has this wing
abbrev pub IsWingWithin : Limits → Wing → Type 0
IsWingWithin limits (Wing.Slot c k r) = IsCell limits c k r
IsWingWithin limits (Wing.Block b) = IsBlockWithin limits b

-- a rank's number in a line of so many lines of cells: each line has all ranks of all communicators
abbrev pub cell_in : Limits → ℕ → ℕ → ℕ → ℕ
cell_in limits line c r = (line * limits.comms + c) * limits.ranks + r

-- The lists come first, then the revocations. For each round there are then two lines, of slots and of arrivals. So what is set
-- early stands in front.
abbrev pub key_in : Limits → Place → ℕ
key_in limits (ListAt i) = i
key_in limits (CommAt j) = limits.ranks + j
key_in limits (RevokedAt c) = limits.ranks + limits.comms + c
key_in limits (SlotAt c k r) = limits.ranks + 2 * limits.comms + cell_in limits (2 * k) c r
key_in limits (ArrivalAt c k r) = limits.ranks + 2 * limits.comms + cell_in limits (2 * k + 1) c r

-- each place has a word in the row, and two places have two
pub record HaveWords (limits : Limits) : Type 0 where
  pub inside : (p : Place) → IsWithin limits p → key_in limits p < size_of limits
  pub apart : (p q : Place) → IsWithin limits p → IsWithin limits q → key_in limits p ≡ key_in limits q → p ≡ q
