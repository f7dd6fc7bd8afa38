-- Histories, the oldest event first: what they say, what a round decides, and which event may come next.
use Rattle.std.specs.Prelude.{◌≡◌, ℕ, zero, suc, ◌+◌, ◌-◌, ◌<◌, ◌≤◌, ◌==◌, Bool, not, ◌&&◌, if◌then◌else◌, IsTrue, IsFalse, ⊤}
use Rattle.std.specs.Prelude.{List, [], ◌∷◌, ◌++◌, length, reverse, map, take, filter, filter_map, slice_get, Option, Some, None, is_some}
use Rattle.std.specs.{List.{list_any, list_all}, Option.{option_or}}
use Rattle.ulfm_laws.specs.{declared.summary.Body.{Body}, declared.summary.CtxMask.{CtxMask}, Bodies.{body_unit, body_meld}, Combined.{combined}}
use Rattle.ulfm_model.specs.declared.{contribution.Contribution.{Contribution}, contribution.Offer.{Offer}, contribution.Slot.{Slot}}
use Rattle.ulfm_model.specs.declared.{event.Caller.{Caller}, event.Entry.{Entry}, event.Event.{Event}, limits.Limits.{Limits}}

-- whether a rank is in a group; groups are lists of ranks
abbrev pub has : List ℕ → ℕ → Bool
has group rank = list_any (λ x. x == rank) group

-- the ranks of the first group that are not in the second, in their order
abbrev pub without : List ℕ → List ℕ → List ℕ
without group others = filter (λ x. not (has others x)) group

-- the ranks 0 up to n - 1
abbrev pub first_ranks : ℕ → List ℕ
first_ranks zero = []
first_ranks (suc n) = first_ranks n ++ n ∷ []

-- a history is a list of events, each with its caller's name
abbrev pub History : Type 0 → Type 0
History P = List (Entry P)

-- events in the name of one caller
abbrev pub entries_by : {P : Type 0} → Caller → List (Event P) → History P
entries_by caller events = map (λ e. record { by = caller; event = e }) events

-- what an event says: whom it declares failed; what settles which place; which place arrives; what is revoked; of what a communicator is made
pub record Says (P : Type 0) : Type 0 where
  pub declares : Option ℕ
  pub settles : Option ((ℕ × ℕ × ℕ) × Slot P)
  pub arrives : Option (ℕ × ℕ × ℕ)
  pub revokes : Option ℕ
  pub makes : Option (ℕ × ℕ)

-- each kind of event says one thing
abbrev pub says : {P : Type 0} → Event P → Says P
says (Event.Fail r) = record { declares = Some r; settles = None; arrives = None; revokes = None; makes = None }
says (Event.Settle c k r given) = record { declares = None; settles = Some ((c, k, r), Slot.Given given); arrives = None; revokes = None; makes = None }
says (Event.Mark c k r mark) = record { declares = None; settles = Some ((c, k, r), Slot.Mark mark); arrives = None; revokes = None; makes = None }
says (Event.Arrive c k r) = record { declares = None; settles = None; arrives = Some (c, k, r); revokes = None; makes = None }
says (Event.Revoke c) = record { declares = None; settles = None; arrives = None; revokes = Some c; makes = None }
says (Event.Spawn j c k) = record { declares = None; settles = None; arrives = None; revokes = None; makes = Some (c, k) }

-- whether two places, each a communicator, a round and a rank, are one
abbrev pub same_place : ℕ × ℕ × ℕ → ℕ × ℕ × ℕ → Bool
same_place x y = (x.0 == y.0) && (x.1 == y.1) && (x.2 == y.2)

-- the declared failures, in their order; one list for all communicators
abbrev pub failures : {P : Type 0} → History P → List ℕ
failures h = filter_map (λ e. (says e.event).declares) h

-- what a settlement puts at a place, if it is a settlement of that place
abbrev pub put_at : {P : Type 0} → ℕ × ℕ × ℕ → Option ((ℕ × ℕ × ℕ) × Slot P) → Option (Slot P)
put_at place None = None
put_at place (Some put) = if same_place put.0 place then Some put.1 else None

-- an agreement round, as a finite map: what the first event that settles rank r in round k of communicator c puts there, if one does
abbrev pub slot : {P : Type 0} → History P → ℕ → ℕ → ℕ → Option (Slot P)
slot [] c k r = None
slot (e ∷ later) c k r = option_or (put_at (c, k, r) (says e.event).settles) (slot later c k r)

-- whether rank r has arrived in barrier round k of communicator c
abbrev pub has_arrived : {P : Type 0} → History P → ℕ → ℕ → ℕ → Bool
has_arrived h c k r = list_any (λ place. same_place place (c, k, r)) (filter_map (λ e. (says e.event).arrives) h)

-- whether communicator c is revoked (ULFM: Communicator Functions, MPI_COMM_REVOKE)
abbrev pub is_revoked : {P : Type 0} → History P → ℕ → Bool
is_revoked h c = has (filter_map (λ e. (says e.event).revokes) h) c

-- the parents and rounds that communicators were made of, those of communicator 1 first
abbrev pub spawns : {P : Type 0} → History P → List (ℕ × ℕ)
spawns h = filter_map (λ e. (says e.event).makes) h

-- how many failures a mark or a contribution names
abbrev pub known_of : {P : Type 0} → Slot P → ℕ
known_of (Slot.Mark mark) = mark.known.count
known_of (Slot.Given given) = given.known.count

-- an offer as a body
abbrev pub body_of : {P : Type 0} → Offer P → Body P
body_of (Offer.Flag flag) = Body.Flag flag
body_of (Offer.Ctx mask) = Body.Ctx mask

-- the contribution, where it is no mark
abbrev pub contribution_of : {P : Type 0} → Slot P → Option (Contribution P)
contribution_of (Slot.Mark mark) = None
contribution_of (Slot.Given given) = Some given

-- the declared ranks among some members, in the order of their failures
abbrev pub failed_among : {P : Type 0} → List ℕ → History P → List ℕ
failed_among members h = filter (has members) (failures h)

-- what settles these members in a round, in the members' order
abbrev pub round_among : {P : Type 0} → List ℕ → History P → ℕ → ℕ → List (Slot P)
round_among members h c k = filter_map (slot h c k) members

-- the union of the groups that marks and contributions name, each the first so many of the failed group
abbrev pub union_of : {P : Type 0} → List ℕ → List (Slot P) → List ℕ
union_of failed settled = filter (λ r. list_any (λ s. has (take (known_of s) failed) r) settled) failed

-- the group that a round of these members leaves out
abbrev pub group_among : {P : Type 0} → List ℕ → History P → ℕ → ℕ → List ℕ
group_among members h c k = union_of (failed_among members h) (round_among members h c k)

-- the members of c after an event; one that it makes has its parent's, in their order, without the group that its round leaves out
abbrev pub members_after : {P : Type 0} → (ℕ → List ℕ) → History P → Option (ℕ × ℕ) → ℕ → List ℕ
members_after earlier h None c = earlier c
members_after earlier h (Some made) c =
    if c == length (spawns h) + 1 then without (earlier made.0) (group_among (earlier made.0) h made.0 made.1) else earlier c

-- the same after all events, given the latest first; at the start all ranks, in order, are the world's members
abbrev pub members_by : {P : Type 0} → ℕ → List (Entry P) → ℕ → List ℕ
members_by ranks [] c = if c == 0 then first_ranks ranks else []
members_by ranks (e ∷ past) c = members_after (members_by ranks past) (reverse past) (says e.event).makes c

-- the members of a communicator (ULFM: Communicator Functions, MPI_COMM_SHRINK)
abbrev pub members : {P : Type 0} → ℕ → History P → ℕ → List ℕ
members ranks h c = members_by ranks (reverse h) c

-- the failed group of a communicator: the failures among its members (ULFM: Communicator Functions, MPI_COMM_GET_FAILED)
abbrev pub failed : {P : Type 0} → ℕ → History P → ℕ → List ℕ
failed ranks h c = failed_among (members ranks h c) h

-- what is settled in a round, in the members' order
abbrev pub round : {P : Type 0} → ℕ → History P → ℕ → ℕ → List (Slot P)
round ranks h c k = round_among (members ranks h c) h c k

-- whether a round is decided: each member is settled
abbrev pub is_decided : {P : Type 0} → ℕ → History P → ℕ → ℕ → Bool
is_decided ranks h c k = list_all (λ r. is_some (slot h c k r)) (members ranks h c)

-- what all who return from a round are told
pub record Decision (P : Type 0) : Type 0 where
  pub body : Body P
  pub failed : List ℕ
  pub raised : Bool

-- whether a contributor had not acknowledged some rank of a group: its acknowledged group is the first so many of the failed group
abbrev pub lacks_one : {P : Type 0} → List ℕ → List ℕ → Contribution P → Bool
lacks_one failed group given = let acknowledged = take given.acked.count failed in list_any (λ r. not (has acknowledged r)) group

-- the contributed bodies combined; the named groups united; an error where a contributor had not acknowledged all of that (ULFM: MPI_COMM_AGREE)
abbrev pub decided_by : {P : Type 0} → (P → P → P) → List ℕ → List (Slot P) → Decision P
decided_by meld failed settled =
    let given = filter_map contribution_of settled in
    let group = union_of failed settled in
    record { body = combined body_unit (body_meld meld) (map (λ g. body_of g.offer) given); failed = group; raised = list_any (lacks_one failed group) given }

-- the decision of a round
abbrev pub decision : {P : Type 0} → (P → P → P) → ℕ → History P → ℕ → ℕ → Decision P
decision meld ranks h c k = decided_by meld (failed ranks h c) (round ranks h c k)

-- a communicator exists where it is the world's or was spawned
abbrev pub Exists : {P : Type 0} → History P → ℕ → Type 0
Exists h c = c ≤ length (spawns h)

-- rank r is a member of communicator c, which has a round k
pub record IsPlace {P : Type 0} (limits : Limits) (h : History P) (c k r : ℕ) : Type 0 where
  pub exists : Exists h c
  pub member : IsTrue (has (members limits.ranks h c) r)
  pub in_rounds : k < limits.rounds

-- of which parent and round communicator c was made, if it was
abbrev pub made_of : {P : Type 0} → History P → ℕ → Option (ℕ × ℕ)
made_of h c = slice_get (spawns h) (c - 1)

-- whether a communicator was made of this round
abbrev pub is_made : {P : Type 0} → History P → ℕ → ℕ → Bool
is_made h c k = list_any (λ made. (made.0 == c) && (made.1 == k)) (spawns h)

-- the communicator of the next number is made of a round that has decided on free ids, once, where there is room
pub record MaySpawn {P : Type 0} (meld : P → P → P) (limits : Limits) (h : History P) (j c k : ℕ) : Type 0 where
  pub next : j ≡ length (spawns h) + 1
  pub room : j < limits.comms
  pub exists : Exists h c
  pub in_rounds : k < limits.rounds
  pub decided : IsTrue (is_decided limits.ranks h c k)
  pub ids : (mask : CtxMask) × ((decision meld limits.ranks h c k).body ≡ Body.Ctx mask) × (0 < mask.bits)
  pub first : IsFalse (is_made h c k)

-- the event may come next: a rank fails once; a member settles once, and knows no more failures of its communicator than there are; only a
-- declared member is marked, unsettled, with the failed group's count up to and with it; a member arrives once; a communicator is revoked once
abbrev pub MayFollow : {P : Type 0} → (P → P → P) → Limits → History P → Event P → Type 0
MayFollow meld limits h (Event.Fail r) = (r < limits.ranks) × IsFalse (has (failures h) r)
MayFollow meld limits h (Event.Settle c k r given) = IsPlace limits h c k r × (slot h c k r ≡ None) × (given.known.count ≤ length (failed limits.ranks h c))
MayFollow meld limits h (Event.Mark c k r mark) =
    IsPlace limits h c k r × (slot h c k r ≡ None) × (slice_get (failed limits.ranks h c) (mark.known.count - 1) ≡ Some r)
MayFollow meld limits h (Event.Arrive c k r) = IsPlace limits h c k r × IsFalse (has_arrived h c k r)
MayFollow meld limits h (Event.Revoke c) = Exists h c × IsFalse (is_revoked h c)
MayFollow meld limits h (Event.Spawn j c k) = MaySpawn meld limits h j c k

-- after a history, each further event is allowed by what came before it
abbrev pub IsLegalAfter : {P : Type 0} → (P → P → P) → Limits → History P → History P → Type 0
IsLegalAfter meld limits before [] = ⊤
IsLegalAfter meld limits before (e ∷ rest) = MayFollow meld limits before e.event × IsLegalAfter meld limits (before ++ e ∷ []) rest

-- a history is legal where each event is allowed by those before it
abbrev pub IsLegal : {P : Type 0} → (P → P → P) → Limits → History P → Type 0
IsLegal meld limits h = IsLegalAfter meld limits [] h
