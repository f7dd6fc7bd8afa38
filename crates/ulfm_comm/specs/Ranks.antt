-- What a rank keeps beside its record.
use Rattle.std.specs.Prelude.{ℕ, ◌≡◌, ◌<◌, ◌≤◌, [], IsFalse, List, length, map, nat_eq, take, vec_capacity}
use Rattle.std.specs.List.{AllByRecursion, IsDistinct}
use Rattle.std.specs.declared.vec.Vec.{Vec}
use Rattle.ulfm_laws.specs.Ranges.{payload_bits}
use Rattle.ulfm_model.specs.declared.limits.Limits.{Limits}
use Rattle.ulfm_model.specs.{History.{has}, Records.{Held}, Words.{MayOpen}}
use Rattle.ulfm_comm.specs.Prepared.{few_comms}

-- All ranks can be declared without a growth of what was seen, which has this capacity. The communicators that are held have distinct
-- context ids, each one of a mask's bits. They stand in a vector that has room for a few from the start, and where there are more, for as many as
-- there are ids.
pub record HasRoom (limits : Limits) (capacity places : ℕ) (held : List Held) : Type 0 where
  pub may_open : MayOpen limits
  pub room : limits.ranks ≤ capacity
  pub few : few_comms ≤ places
  pub more : few_comms < length held → payload_bits ≤ places
  pub ids : AllByRecursion (λ i. i < payload_bits) (map (λ x. x.context) held)
  pub contexts : IsDistinct nat_eq (map (λ x. x.context) held)

-- an empty list that has room for so many
pub record IsEmptyList {A : Type 0} (room : ℕ) (list : Vec ℕ A) : Type 0 where
  pub none : list.items ≡ []
  pub roomy : room ≤ vec_capacity list

-- the first so many of the failures that a rank has seen are others
pub record AreOthers (number : ℕ) (seen : List ℕ) (count : ℕ) : Type 0 where
  pub within : count ≤ length seen
  pub none : IsFalse (has (take count seen) number)

-- its number is that of one of the world's ranks, it has that room, and so many that it has seen are others
pub record IsKept (number : ℕ) (limits : Limits) (capacity places : ℕ) (held : List Held) (seen : List ℕ) (others : ℕ) : Type 0 where
  pub below : number < limits.ranks
  pub room : HasRoom limits capacity places held
  pub others_are : AreOthers number seen others
