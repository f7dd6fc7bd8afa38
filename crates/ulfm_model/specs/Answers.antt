-- Which replies are answers to a call of a rank, at a point of a history, and what each leaves of the rank's record; refusals among them.
use Rattle.std.specs.Prelude.{◌≡◌, ◌⊎◌, ℕ, ◌+◌, ◌<◌, ◌≤◌, ◌==◌, nat_le, min, max, Bool, not, true, false, if◌then◌else◌, IsTrue, IsFalse}
use Rattle.std.specs.Prelude.{List, [], ◌∷◌, ◌++◌, length, take, filter, codes, Option, Some, None, is_some}
use Rattle.std.specs.{List.{AllByRecursion, list_any, list_all}, Option.{option_and_then}}
use mathlib.Core.List.{IsPrefix}
use Rattle.ulfm_laws.specs.declared.{summary.Body.{Body}, summary.CtxMask.{CtxMask}}
use Rattle.ulfm_model.specs.declared.{call.Call.{Call}, call.Request.{Request}, event.Caller.{Caller}, event.Event.{Event}, limits.Limits.{Limits}}
use Rattle.ulfm_model.specs.declared.{contribution.Contribution.{Contribution}, contribution.MarkCount.{MarkCount}, contribution.Offer.{Offer}}
use Rattle.ulfm_model.specs.declared.{contribution.Slot.{Slot}, refusal.Refusal.{Refusal}, reply.Reply.{Reply}}
use Rattle.ulfm_model.specs.History.{Decision, History, decision, failed, failures, has, has_arrived, is_decided, is_made, is_revoked}
use Rattle.ulfm_model.specs.History.{made_of, members, slot, spawns}
use Rattle.ulfm_model.specs.Records.{Held, IsLowestId, Moment, Record, free_ids, held_at, is_shrink, new_held, with_held}

-- what a reply leaves: the record as it is; the request ended; the rank refused for good
pub data Effect : Type 0 where
  Keeps Ends ForGood : Effect

-- the number, the printed name and the effect of each refusal
abbrev pub printed : Refusal → ℕ × List ℕ × Effect
printed Refusal.SelfFailed = (1, codes "self-failed", Effect.ForGood)
printed Refusal.NoSuchComm = (2, codes "no-such-comm", Effect.Keeps)
printed Refusal.Busy = (3, codes "busy", Effect.Keeps)
printed Refusal.ShrinkOpen = (4, codes "shrink-open", Effect.Keeps)
printed Refusal.RoundsUsedUp = (5, codes "rounds-used-up", Effect.Keeps)
printed Refusal.Idle = (6, codes "idle", Effect.Keeps)
printed Refusal.Mismatch = (7, codes "mismatch", Effect.Ends)
printed Refusal.NoContext = (8, codes "no-context", Effect.Ends)
printed Refusal.NoRoom = (9, codes "no-room", Effect.Ends)
printed Refusal.IsRevoked = (10, codes "is-revoked", Effect.Ends)
printed Refusal.ProcFailed = (11, codes "proc-failed", Effect.Ends)
printed Refusal.WorldKept = (12, codes "world-kept", Effect.Keeps)
printed Refusal.NoSuchRank = (13, codes "no-such-rank", Effect.Keeps)
printed Refusal.OutOfMemory = (14, codes "out-of-memory", Effect.Keeps)
printed Refusal.Twice = (15, codes "twice", Effect.Keeps)

-- what a reply rests on: the failures that the call's look found, the history at the reply's point, and the call's own events; and whether the wing
-- of the caller's next place is set, of which no history tells
pub record AtPoint (P : Type 0) : Type 0 where
  pub look : List ℕ
  pub history : History P
  pub own : List (Event P)
  pub spread : Bool

-- the traits of a call: its caller; the rank and the communicator that it names, 0 for a declaration; the request that it starts on a held
-- one; whether it polls; and its tests on a held one, in their order, each with its refusal
pub record Traits : Type 0 where
  pub by : Caller
  pub rank : ℕ
  pub comm : ℕ
  pub starts : Held → Option Request
  pub polls : Bool
  pub tests : Record → Held → List (Bool × Refusal)

-- a call of a rank that neither starts nor polls, and has no test
abbrev pub plain : ℕ → ℕ → Traits
plain rank c = record { by = Caller.Rank rank; rank = rank; comm = c; starts = λ x. None; polls = false; tests = λ old x. [] }

-- a call of a rank that starts a request, where none is open on the communicator and the other tests allow it
abbrev pub starting : ℕ → ℕ → (Held → Request) → (Record → Held → List (Bool × Refusal)) → Traits
starting rank c request tests =
    record (plain rank c) { starts = λ x. Some (request x); tests = λ old x. (is_some x.request, Refusal.Busy) ∷ tests old x }

-- the traits of each call; the last agreement round is kept for a shrink
abbrev pub traits_of : {P : Type 0} → Call P → Traits
traits_of (Call.Fail rank) = record (plain rank 0) { by = Caller.Outside }
traits_of (Call.GetFailed rank c) = plain rank c
traits_of (Call.FailureGetAcked rank c) = plain rank c
traits_of (Call.Ack rank c count) = plain rank c
traits_of (Call.FailureAck rank c) = plain rank c
traits_of (Call.Agree rank c value) =
    starting rank c (λ x. Request.Agree x.next_agreement) (λ old x. (nat_le old.limits.rounds (x.next_agreement + 1), Refusal.RoundsUsedUp) ∷ [])
traits_of (Call.Shrink rank c) =
    starting rank c (λ x. Request.Shrink x.next_agreement)
    (λ old x. (list_any (λ y. is_shrink y.request) old.held, Refusal.ShrinkOpen) ∷ (nat_le old.limits.rounds x.next_agreement, Refusal.RoundsUsedUp) ∷ [])
traits_of (Call.Barrier rank c) =
    starting rank c (λ x. Request.Barrier x.next_barrier) (λ old x. (nat_le old.limits.rounds x.next_barrier, Refusal.RoundsUsedUp) ∷ [])
traits_of (Call.Poll rank c) = record (plain rank c) { polls = true; tests = λ old x. (not (is_some x.request), Refusal.Idle) ∷ [] }
traits_of (Call.Revoke rank c) = plain rank c
traits_of (Call.IsRevoked rank c) = plain rank c
traits_of (Call.Free rank c) = record (plain rank c) { tests = λ old x. (c == 0, Refusal.WorldKept) ∷ (is_some x.request, Refusal.Busy) ∷ [] }

-- the rank that a call names
abbrev pub rank_of : {P : Type 0} → Call P → ℕ
rank_of asked = (traits_of asked).rank

-- the communicator that a call names
abbrev pub comm_of : {P : Type 0} → Call P → ℕ
comm_of asked = (traits_of asked).comm

-- the request that a call polls
abbrev pub polled_by : {P : Type 0} → Record → Call P → Option Request
polled_by old asked = if (traits_of asked).polls then option_and_then (λ x. x.request) (held_at old (comm_of asked)) else None

-- the first refusal whose test holds
abbrev pub first_refusal : List (Bool × Refusal) → Option Refusal
first_refusal [] = None
first_refusal (test ∷ tests) = if test.0 then Some test.1 else first_refusal tests

-- the refusal where the rank doesn't hold the communicator, or by the first test that holds
abbrev pub refusal_on : {P : Type 0} → Record → Option Held → Call P → Option Refusal
refusal_on old None asked = Some Refusal.NoSuchComm
refusal_on old (Some x) asked = first_refusal ((traits_of asked).tests old x)

-- the refusal of a call by the rank's record, if it has one
abbrev pub refusal_of : {P : Type 0} → Record → Call P → Option Refusal
refusal_of old asked = refusal_on old (held_at old (comm_of asked)) asked

-- the event marks, in round k, a member that the look found declared
abbrev pub MarksDeclared : {P : Type 0} → List ℕ → Held → ℕ → Event P → Type 0
MarksDeclared look x k event = (r : ℕ) × (mark : MarkCount) × (event ≡ Event.Mark x.comm k r mark) × IsTrue (has look r) × IsTrue (has x.group r)

-- what the poll of a request may add: marks in its round, and for a shrink a communicator made of that round
abbrev pub PollAdds : {P : Type 0} → List ℕ → Held → Option Request → Event P → Type 0
PollAdds look x (Some (Request.Agree k)) event = MarksDeclared look x k event
PollAdds look x (Some (Request.Shrink k)) event = MarksDeclared look x k event ⊎ ((j : ℕ) × (event ≡ Event.Spawn j x.comm k))
PollAdds look x _ event = ⊥

-- what a call of rank r may add, on a communicator that the rank holds
abbrev pub CallAdds : {P : Type 0} → List ℕ → ℕ → Held → Call P → Event P → Type 0
CallAdds {P} look r x (Call.Agree rank c value) event = (given : Contribution P) × (event ≡ Event.Settle x.comm x.next_agreement r given)
CallAdds {P} look r x (Call.Shrink rank c) event = (given : Contribution P) × (event ≡ Event.Settle x.comm x.next_agreement r given)
CallAdds look r x (Call.Barrier rank c) event = event ≡ Event.Arrive x.comm x.next_barrier r
CallAdds look r x (Call.Poll rank c) event = PollAdds look x x.request event
CallAdds look r x (Call.Revoke rank c) event = event ≡ Event.Revoke x.comm
CallAdds look r x _ event = ⊥

-- an event may be the call's own only where the look didn't find the rank declared and its record doesn't refuse the call
pub record MayOwn {P : Type 0} (look : List ℕ) (old : Record) (asked : Call P) (event : Event P) : Type 0 where
  pub not_declared : IsFalse (has look old.number)
  pub not_refused : refusal_of old asked ≡ None
  pub adds : (x : Held) × (held_at old (comm_of asked) ≡ Some x) × CallAdds look old.number x asked event

-- a start has contributed this offer, with the failures that the look found and those that the record has acknowledged
pub record Contributes {P : Type 0} (view : AtPoint P) (old : Record) (x : Held) (offer : Offer P) : Type 0 where
  pub given : Contribution P
  pub own : view.own ≡ Event.Settle x.comm x.next_agreement old.number given ∷ []
  pub stands : slot view.history x.comm x.next_agreement old.number ≡ Some (Slot.Given given)
  pub offer_is : given.offer ≡ offer
  pub known : given.known.count ≡ length (filter (has x.group) view.look)
  pub acked : given.acked.count ≡ x.acked

-- the start of an agree or of a shrink: it has contributed, or the rank's place has a contribution that isn't this call's, or its wing is set
abbrev pub StartReplies : {P : Type 0} → AtPoint P → Record → Held → Offer P → Reply P → Type 0
StartReplies {P} view old x offer reply =
    ((reply ≡ Reply.Started) × Contributes view old x offer)
    ⊎ ((reply ≡ Reply.Refused Refusal.Twice) × (view.own ≡ [])
    × (((given : Contribution P) × (slot view.history x.comm x.next_agreement old.number ≡ Some (Slot.Given given))) ⊎ IsTrue view.spread))

-- this call's event has made it so, which one reply says, or it was so before, which the other says
abbrev pub DoneOrFound : {P : Type 0} → AtPoint P → Event P → Reply P → Reply P → Reply P → Type 0
DoneOrFound view event done found reply = ((reply ≡ done) × (view.own ≡ event ∷ [])) ⊎ ((reply ≡ found) × (view.own ≡ []))

-- the start of a barrier; either way the rank has arrived
abbrev pub BarrierStartReplies : {P : Type 0} → AtPoint P → Record → Held → Reply P → Type 0
BarrierStartReplies view old x reply =
    IsTrue (has_arrived view.history x.comm x.next_barrier old.number)
    × DoneOrFound view (Event.Arrive x.comm x.next_barrier old.number) Reply.Started (Reply.Refused Refusal.Twice) reply

-- an agreement is pending where some member that the look didn't find declared is unsettled
pub record IsPending {P : Type 0} (view : AtPoint P) (x : Held) (k : ℕ) : Type 0 where
  pub member : ℕ
  pub in_group : IsTrue (has x.group member)
  pub not_declared : IsFalse (has view.look member)
  pub unsettled : slot view.history x.comm k member ≡ None

-- a decided agree: the decision's flag, the size of its failed group and its error; a mismatch where some shrank
abbrev pub AgreeReplies : {P : Type 0} → Decision P → Reply P → Type 0
AgreeReplies {P} made reply =
    ((value : P) × (made.body ≡ Body.Flag value) × (reply ≡ Reply.Agreed made.raised (length made.failed) value))
    ⊎ ((made.body ≡ Body.Clash) × (reply ≡ Reply.Refused Refusal.Mismatch))

-- a shrink that decided on free ids, of a caller that stays in: what was made of its round, with the least id; or no room was left for it
abbrev pub SpawnReplies : {P : Type 0} → Limits → History P → ℕ → ℕ → ℕ → Reply P → Type 0
SpawnReplies limits h c k mask reply =
    ((j context : ℕ) × (0 < j) × (made_of h j ≡ Some (c, k)) × IsLowestId mask context
    × (reply ≡ Reply.Shrunk j context (length (members limits.ranks h j))))
    ⊎ ((length (spawns h) + 1 ≡ limits.comms) × IsFalse (is_made h c k) × (reply ≡ Reply.Refused Refusal.NoRoom))

-- a decided shrink: no context where no id is free at all contributors; a mismatch where some agreed
abbrev pub ShrinkReplies : {P : Type 0} → Limits → History P → ℕ → ℕ → ℕ → Decision P → Reply P → Type 0
ShrinkReplies limits h r c k made reply =
    ((mask : CtxMask) × (made.body ≡ Body.Ctx mask)
    × (((mask.bits ≡ 0) × (reply ≡ Reply.Refused Refusal.NoContext))
    ⊎ ((0 < mask.bits) × IsFalse (has made.failed r) × SpawnReplies limits h c k mask.bits reply)))
    ⊎ ((made.body ≡ Body.Clash) × (reply ≡ Reply.Refused Refusal.Mismatch))

-- a barrier's poll: the first of these that holds
abbrev pub barrier_reply : {P : Type 0} → AtPoint P → Held → ℕ → Reply P
barrier_reply view x k =
    if is_revoked view.history x.comm then Reply.Refused Refusal.IsRevoked
    else (if list_all (has_arrived view.history x.comm k) x.group then Reply.Done
    else (if list_all (has_arrived view.history x.comm k) (filter (has x.group) view.look) then Reply.Pending
    else Reply.Refused Refusal.ProcFailed))

-- the poll of an agreement: it is pending, or decided with a reply by its decision
abbrev pub AgreementReplies : {P : Type 0} → (P → P → P) → Limits → AtPoint P → Held → ℕ → (Decision P → Type 0) → Reply P → Type 0
AgreementReplies meld limits view x k decides reply =
    (IsPending view x k × (reply ≡ Reply.Pending))
    ⊎ (IsTrue (is_decided limits.ranks view.history x.comm k) × decides (decision meld limits.ranks view.history x.comm k))

-- the poll of a request
abbrev pub PollReplies : {P : Type 0} → (P → P → P) → Limits → AtPoint P → ℕ → Held → Option Request → Reply P → Type 0
PollReplies meld limits view r x None reply = ⊥
PollReplies meld limits view r x (Some (Request.Agree k)) reply = AgreementReplies meld limits view x k (λ made. AgreeReplies made reply) reply
PollReplies meld limits view r x (Some (Request.Shrink k)) reply =
    AgreementReplies meld limits view x k (λ made. ShrinkReplies limits view.history r x.comm k made reply) reply
PollReplies meld limits view r x (Some (Request.Barrier k)) reply = reply ≡ barrier_reply view x k

-- how many failures an acknowledgement of all names: no world has more ranks
abbrev pub most_failures : ℕ
most_failures = 1024

-- a call that the record doesn't refuse. Where a count of failures is answered, the point is at the look
abbrev pub Replies : {P : Type 0} → (P → P → P) → Limits → AtPoint P → Record → Held → Call P → Reply P → Type 0
Replies meld limits view old x (Call.Fail rank) reply = ⊥
Replies meld limits view old x (Call.GetFailed rank c) reply =
    (failures view.history ≡ view.look) × (reply ≡ Reply.FailedGroup (length (failed limits.ranks view.history c)))
Replies meld limits view old x (Call.FailureGetAcked rank c) reply =
    (failures view.history ≡ view.look) × (reply ≡ Reply.FailedGroup (length (take x.acked (failed limits.ranks view.history c))))
Replies meld limits view old x (Call.Ack rank c count) reply =
    (failures view.history ≡ view.look) × (reply ≡ Reply.Acked (max x.acked (min count (length (failed limits.ranks view.history c)))))
Replies meld limits view old x (Call.FailureAck rank c) reply =
    (failures view.history ≡ view.look) × (reply ≡ Reply.Acked (max x.acked (min most_failures (length (failed limits.ranks view.history c)))))
Replies meld limits view old x (Call.Agree rank c value) reply = StartReplies view old x (Offer.Flag value) reply
Replies meld limits view old x (Call.Shrink rank c) reply = StartReplies view old x (Offer.Ctx (free_ids old.held)) reply
Replies meld limits view old x (Call.Barrier rank c) reply = BarrierStartReplies view old x reply
Replies meld limits view old x (Call.Poll rank c) reply = PollReplies meld limits view old.number x x.request reply
Replies meld limits view old x (Call.Revoke rank c) reply =
    IsTrue (is_revoked view.history c) × DoneOrFound view (Event.Revoke c) Reply.Revoked Reply.AlreadyRevoked reply
Replies meld limits view old x (Call.IsRevoked rank c) reply = reply ≡ Reply.Standing (is_revoked view.history c)
Replies meld limits view old x (Call.Free rank c) reply = reply ≡ Reply.Freed

-- where the record refuses the call, that refusal is the only reply; else the reply is one to a call on the communicator that is held
abbrev pub RepliesBy : {P : Type 0} → (Held → Type 0) → Reply P → Option Held → Option Refusal → Type 0
RepliesBy replies reply held (Some refusal) = reply ≡ Reply.Refused refusal
RepliesBy replies reply (Some x) None = replies x
RepliesBy replies reply None None = ⊥

-- a communicator with a request that was started on it; its round is used up
abbrev pub opened : Held → Option Request → Held
opened x None = x
opened x (Some (Request.Agree k)) = record x { next_agreement = k + 1; request = Some (Request.Agree k) }
opened x (Some (Request.Shrink k)) = record x { next_agreement = k + 1; request = Some (Request.Shrink k) }
opened x (Some (Request.Barrier k)) = record x { next_barrier = k + 1; request = Some (Request.Barrier k) }

-- a record without the request on communicator c
abbrev pub closed : Record → ℕ → Record
closed now c = with_held now c (λ y. record y { request = None })

-- the effect of a reply
abbrev pub effect_of : {P : Type 0} → Reply P → Effect
effect_of (Reply.Agreed raised count value) = Effect.Ends
effect_of (Reply.Shrunk j context size) = Effect.Ends
effect_of Reply.Done = Effect.Ends
effect_of (Reply.Refused refusal) = (printed refusal).2
effect_of _ = Effect.Keeps

-- after a reply, by its effect
abbrev pub left_with : Record → ℕ → Effect → Record
left_with now c Effect.Keeps = now
left_with now c Effect.Ends = closed now c
left_with now c Effect.ForGood = record now { refused = true }

-- after a reply, by the history at its point
abbrev pub left_by : {P : Type 0} → ℕ → History P → Record → Call P → Reply P → Record
left_by ranks h now asked Reply.Started = with_held now (comm_of asked) (λ y. opened y ((traits_of asked).starts y))
left_by ranks h now asked (Reply.Shrunk j context size) =
    let rest = closed now (comm_of asked) in record rest { held = rest.held ++ new_held j context (members ranks h j) ∷ [] }
left_by ranks h now asked (Reply.Acked count) = with_held now (comm_of asked) (λ y. record y { acked = count })
left_by ranks h now asked Reply.Freed = record now { held = filter (λ y. not (y.comm == comm_of asked)) now.held }
left_by ranks h now asked reply = left_with now (comm_of asked) (effect_of reply)

-- the failures that the rank has seen then: those of the look; a shrink's poll may have read on, up to those at the call's end
abbrev pub Sees : {P : Type 0} → Bool → List ℕ → History P → List ℕ → Type 0
Sees false look after seen = seen ≡ look
Sees true look after seen = IsPrefix look seen × IsPrefix seen (failures after)

-- the new record is what the reply leaves of the old one at the call's end
pub record Leaves {P : Type 0} (ranks : ℕ) (view : AtPoint P) (after : History P) (old : Record) (asked : Call P) (reply : Reply P) (new : Record)
    : Type 0 where
  pub seen : Sees (is_shrink (polled_by old asked)) view.look after new.seen
  pub record_is : new ≡ left_by ranks view.history (record old { seen = new.seen }) asked reply

-- the rank is declared at the point, and refused for good from now on; a start that is refused so has added nothing
pub record IsSelfFailed {P : Type 0} (view : AtPoint P) (old : Record) (asked : Call P) (reply : Reply P) : Type 0 where
  pub reply_is : reply ≡ Reply.Refused Refusal.SelfFailed
  pub declared : IsTrue (has (failures view.history) old.number)
  pub adds_nothing : (x : Held) → IsTrue (is_some ((traits_of asked).starts x)) → view.own ≡ []

-- any other reply, to a rank that the look didn't find declared
pub record IsReply {P : Type 0} (meld : P → P → P) (limits : Limits) (view : AtPoint P) (old : Record) (asked : Call P) (reply : Reply P) : Type 0 where
  pub not_declared : IsFalse (has view.look old.number)
  pub replies : RepliesBy (λ x. Replies meld limits view old x asked reply) reply (held_at old (comm_of asked)) (refusal_of old asked)

-- the reply is an answer to a rank's call, and leaves the record that the rank has at the call's end
pub record Answers {P : Type 0} (meld : P → P → P) (limits : Limits) (view : AtPoint P) (old : Record) (asked : Call P) (reply : Reply P) (end : Moment P)
    : Type 0 where
  pub own : AllByRecursion (MayOwn view.look old asked) view.own
  pub replies : IsSelfFailed view old asked reply ⊎ IsReply meld limits view old asked reply
  pub leaves : Leaves limits.ranks view end.seen old asked reply end.own

-- the outside's declaration of rank r: by this call, or before, or the world doesn't have the rank
abbrev pub AnswersFail : {P : Type 0} → Limits → AtPoint P → ℕ → Reply P → Type 0
AnswersFail limits view r reply =
    ((reply ≡ Reply.Declared) × (view.own ≡ Event.Fail r ∷ []) × IsTrue (has (failures view.history) r))
    ⊎ ((reply ≡ Reply.AlreadyFailed) × (view.own ≡ []) × IsTrue (has (failures view.history) r))
    ⊎ ((reply ≡ Reply.Refused Refusal.NoSuchRank) × (view.own ≡ []) × (limits.ranks ≤ r))
