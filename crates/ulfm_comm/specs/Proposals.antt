-- The events that calls' next exchanges are for.
use Rattle.std.specs.Prelude.{◌≡◌, ℕ, ◌+◌, Bool, true, false, [], ◌∷◌, ◌++◌, Some, slice_index, IsTrue}
use Rattle.ulfm_model.specs.declared.{call.Call.{Call}, contribution.Contribution.{Contribution}, contribution.MarkCount.{MarkCount}, contribution.Offer.{Offer}}
use Rattle.ulfm_model.specs.declared.{event.Caller.TheVariants.{Rank}, event.Entry.{Entry}, event.Event.{Event}, limits.Limits.{Limits}}
use Rattle.ulfm_model.specs.declared.event.Event.TheVariants.{Arrive, Mark, Revoke, Settle, Spawn}
use Rattle.ulfm_model.specs.{History.{History, MayFollow, MaySpawn}, Records.{Held, Record, held_at}, Terms.{comm_of}}
use Rattle.ulfm_words.specs.{Steps.{View}, Tries.{entry}}
use Rattle.ulfm_steps.specs.declared.item.Item.TheVariants.{Comm as OfComm}
use Rattle.ulfm_comm.specs.{Exchange.{IsOffered}, Local.{Local}, Wings.{WingsIn}}
use Rattle.ulfm_comm.specs.declared.phases.phase.{Next.{Next}, Next.TheVariants.{Goes}, Phase.{Phase}}
use Rattle.ulfm_comm.specs.declared.phases.phase.Phase.TheVariants.{Spreading, Settling, Arriving, Revoking, Marking, Spawning}

-- the contribution of a start to its rank's next round: this offer, with the failures that its look found and how many of them are acknowledged
pub record OffersOwn {P : Type 0} (own : Record) (c : ℕ) (offer : Offer P) (event : Event P) : Type 0 where
  pub x : Held
  pub held : held_at own c ≡ Some x
  pub given : Contribution P
  pub is : event ≡ Settle x.comm x.next_agreement own.number given
  pub offered : IsOffered own x offer given

-- whether a call's next exchange is for an event, by what it does next; a contribution's wing is set for its event
abbrev pub proposes : {P : Type 0} → Phase P → Bool
proposes (Spreading request offer) = true
proposes (Settling request offer) = true
proposes (Arriving round) = true
proposes Revoking = true
proposes (Marking marks blocks shrinks) = true
proposes (Spawning append context reach) = append.empty
proposes _ = false

-- that event
abbrev pub Proposes : {P : Type 0} → Record → Call P → Phase P → Event P → Type 0
Proposes own asked (Spreading request offer) event = OffersOwn own (comm_of asked) offer event
Proposes own asked (Settling request offer) event = OffersOwn own (comm_of asked) offer event
Proposes own asked (Arriving round) event = event ≡ Arrive (comm_of asked) round own.number
Proposes own asked Revoking event = event ≡ Revoke (comm_of asked)
Proposes own asked (Marking marks blocks shrinks) event =
    (mark : MarkCount) × (mark.known.count ≡ marks.known + 1) × (event ≡ Mark marks.comm marks.round (slice_index own.seen marks.next) mark)
Proposes own asked (Spawning append context reach) event = (c k : ℕ) × (append.item ≡ OfComm c k) × (event ≡ Spawn (append.index + 1) c k)
Proposes own asked _ event = ⊥

-- What a step has made of the event that its exchange is for, which may come next: it came last, in the rank's name, and nothing came before it. A
-- contribution's wing is no event: there nothing came, and the call goes on to its contribution.
abbrev pub HasWon : {P : Type 0} → Phase P → Entry P → History P → Next P → History P → Type 0
HasWon (Spreading request offer) entry old next new = (new ≡ old) × (next ≡ Goes (Settling request offer))
HasWon _ entry old next new = new ≡ old ++ entry ∷ []

-- the event may not come next; where it makes a communicator, none of that round may, whatever its number
abbrev pub MayNot : {P : Type 0} → (P → P → P) → Limits → History P → Event P → Type 0
MayNot meld limits h (Spawn j c k) = (i : ℕ) → MaySpawn meld limits h i c k → ⊥
MayNot meld limits h event = MayFollow meld limits h event → ⊥

-- Where nobody else steps, and no wing stands without its place, a step whose exchange is for an event adds just this event if it may come next, and
-- nothing if it may not.
abbrev pub WinsNext : {P : Type 0} → (P → P → P) → Bool → Call P → Phase P → Local P → Next P → View P → Type 0
WinsNext {P} meld alone asked phase old next new =
    IsTrue alone → WingsIn old.own asked phase old.view → proposes phase ≡ true → (event : Event P) → Proposes old.own asked phase event
    → (MayFollow meld old.view.words.limits old.view.pass.seen event
    → HasWon phase (entry (Rank old.own.number) event) old.view.pass.seen next new.pass.seen)
    × (MayNot meld old.view.words.limits old.view.pass.seen event → new.pass.seen ≡ old.view.pass.seen)
