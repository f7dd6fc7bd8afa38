-- What one rank holds, and when that fits a history.
use Rattle.std.specs.Prelude.{◌≡◌, ◌⊎◌, ℕ, ◌<◌, ◌≤◌, ◌==◌, Bool, true, false, ⊤, if◌then◌else◌, IsTrue}
use Rattle.std.specs.Prelude.{List, [], ◌∷◌, length, filter, map, find, Option, Some, None, Contains, nat_eq}
use Rattle.std.specs.{Int.{bit_at}, List.{AllByRecursion, IsDistinct}}
use mathlib.Core.List.{IsPrefix}
pub use Rattle.ulfm_laws.specs.Within.{all_but}
use Rattle.ulfm_laws.specs.{declared.summary.Body.{Body}, declared.summary.CtxMask.{CtxMask}, Combined.{combined}, Masks.{mask_unit, mask_meld}}
use Rattle.ulfm_model.specs.declared.{call.Request.{Request}, contribution.Contribution.{Contribution}, contribution.Offer.{Offer}}
use Rattle.ulfm_model.specs.declared.{event.Caller.{Caller}, event.Event.{Event}, limits.Limits.{Limits}}
use Rattle.ulfm_model.specs.History.{Exists, History, decision, failed, failures, first_ranks, has, made_of, members}

-- a communicator that a rank holds, with how many of its failures the rank has acknowledged, its next rounds and its open request
pub record Held : Type 0 where
  pub comm : ℕ
  pub group : List ℕ
  pub context : ℕ
  pub acked : ℕ
  pub next_agreement : ℕ
  pub next_barrier : ℕ
  pub request : Option Request

-- a rank's record, with the failures that the rank has seen, and whether it was refused for good, as declared failed
pub record Record : Type 0 where
  pub number : ℕ
  pub limits : Limits
  pub held : List Held
  pub seen : List ℕ
  pub refused : Bool

-- a moment of a rank: its record, and what has happened by then
pub record Moment (P : Type 0) : Type 0 where
  pub own : Record
  pub seen : History P

abbrev pub moment : {P : Type 0} → Record → History P → Moment P
moment own seen = record { own = own; seen = seen }

-- what a record holds of communicator c, if it holds it
abbrev pub held_at : Record → ℕ → Option Held
held_at own c = find (λ x. x.comm == c) own.held

-- communicators with the one of number c as it is after f
abbrev pub change_at : ℕ → (Held → Held) → List Held → List Held
change_at c f [] = []
change_at c f (x ∷ xs) = if x.comm == c then f x ∷ xs else x ∷ change_at c f xs

-- a record with communicator c as it is after f
abbrev pub with_held : Record → ℕ → (Held → Held) → Record
with_held own c f = record own { held = change_at c f own.held }

-- the round of the agreement that is open, if one is
abbrev pub agreement_of : Option Request → Option ℕ
agreement_of (Some (Request.Agree k)) = Some k
agreement_of (Some (Request.Shrink k)) = Some k
agreement_of _ = None

-- whether a request is a shrink
abbrev pub is_shrink : Option Request → Bool
is_shrink (Some (Request.Shrink k)) = true
is_shrink _ = false

-- the context ids that none of these communicators has
abbrev pub free_ids : List Held → CtxMask
free_ids held = combined mask_unit mask_meld (map (λ x. all_but x.context) held)

-- i is the least id of a mask
pub record IsLowestId (mask i : ℕ) : Type 0 where
  pub in_it : bit_at mask i ≡ 1
  pub least : (k : ℕ) → k < i → bit_at mask k ≡ 0

-- the context id of a communicator: the world's is 0, and a spawned one has the least id that its round found free
abbrev pub IsContext : {P : Type 0} → (P → P → P) → ℕ → History P → ℕ → ℕ → Type 0
IsContext {P} meld ranks h c context =
    ((c ≡ 0) × (context ≡ 0))
    ⊎ ((parent k : ℕ) × (mask : CtxMask) × (0 < c) × (made_of h c ≡ Some (parent, k)) × ((decision meld ranks h parent k).body ≡ Body.Ctx mask)
    × IsLowestId mask.bits context)

-- the history has this event in the name of rank r
abbrev pub IsOwn : {P : Type 0} → History P → ℕ → Event P → Type 0
IsOwn h r event = Contains h (record { by = Caller.Rank r; event = event })

-- an open request has the rank's own event at its place: a flag, a mask without the ids that the rank holds, or an arrival
abbrev pub FitsRequest : {P : Type 0} → History P → ℕ → List ℕ → ℕ → Option Request → Type 0
FitsRequest h r ids c None = ⊤
FitsRequest {P} h r ids c (Some (Request.Agree k)) =
    (given : Contribution P) × (flag : P) × IsOwn h r (Event.Settle c k r given) × (given.offer ≡ Offer.Flag flag)
FitsRequest {P} h r ids c (Some (Request.Shrink k)) =
    (given : Contribution P) × (mask : CtxMask) × IsOwn h r (Event.Settle c k r given) × (given.offer ≡ Offer.Ctx mask)
    × AllByRecursion (λ i. bit_at mask.bits i ≡ 0) ids
FitsRequest h r ids c (Some (Request.Barrier k)) = IsOwn h r (Event.Arrive c k r)

-- a communicator is held as the history has it, by a rank of this number that holds these context ids
pub record FitsHeld {P : Type 0} (meld : P → P → P) (ranks : ℕ) (h : History P) (r : ℕ) (ids : List ℕ) (x : Held) : Type 0 where
  pub exists : Exists h x.comm
  pub group : x.group ≡ members ranks h x.comm
  pub member : IsTrue (has x.group r)
  pub context : IsContext meld ranks h x.comm x.context
  pub acked : x.acked ≤ length (failed ranks h x.comm)
  pub request : FitsRequest h r ids x.comm x.request

-- the record is one that its rank may hold in this history; its context ids differ, and at most one shrink is open
pub record Fits {P : Type 0} (meld : P → P → P) (limits : Limits) (h : History P) (own : Record) : Type 0 where
  pub same_limits : own.limits ≡ limits
  pub held : AllByRecursion (FitsHeld meld limits.ranks h own.number (map (λ x. x.context) own.held)) own.held
  pub contexts : IsDistinct nat_eq (map (λ x. x.context) own.held)
  pub one_shrink : length (filter (λ x. is_shrink x.request) own.held) ≤ 1
  pub seen : IsPrefix own.seen (failures h)
  pub refused : IsTrue own.refused → IsTrue (has (failures h) own.number)

-- a communicator as a rank first holds it
abbrev pub new_held : ℕ → ℕ → List ℕ → Held
new_held c context group = record { comm = c; group = group; context = context; acked = 0; next_agreement = 0; next_barrier = 0; request = None }

-- a new rank holds the world's communicator alone
abbrev pub new_record : Limits → ℕ → Record
new_record limits number = record { number = number; limits = limits; held = new_held 0 0 (first_ranks limits.ranks) ∷ []; seen = []; refused = false }
