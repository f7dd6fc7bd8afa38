-- Tests that compute: which replies are answers. That each decides what the definitions say is proved.
use Rattle.std.specs.Prelude.{ℕ, ◌+◌, ◌-◌, ◌==◌, nat_le, nat_lt, max, min, Bool, true, false, not, ◌&&◌, ◌||◌, if◌then◌else◌}
use Rattle.std.specs.Prelude.{List, [], ◌∷◌, length, filter, slice_get, take, Option, Some, None, is_some}
use Rattle.std.specs.{List.{list_all, list_any}, Option.{option_map_or}}
use Rattle.ulfm_laws.specs.declared.summary.Body.{Body}
use Rattle.ulfm_model.specs.declared.{call.Call.{Call}, call.Request.{Request}, event.Caller.{Caller}, event.Event.{Event}, limits.Limits.{Limits}}
use Rattle.ulfm_model.specs.declared.{contribution.Contribution.{Contribution}, contribution.Offer.{Offer}, contribution.Slot.{Slot}}
use Rattle.ulfm_model.specs.declared.{refusal.Refusal.{Refusal}, reply.Reply.{Reply}}
use Rattle.ulfm_model.specs.Answers.{comm_of, most_failures, printed, rank_of, refusal_of}
use Rattle.ulfm_model.specs.Computed.{lowest_id}
use Rattle.ulfm_model.specs.History.{Decision, has}
use Rattle.ulfm_model.specs.Records.{Held, Record, free_ids, held_at}
use Rattle.ulfm_model.specs.Traces.{Traced, Under, record_in, view_at}
use Rattle.ulfm_model.specs.declared.line.Line.{Line}
use Rattle.ulfm_judge.specs.{declared.polls.Named.{Named}, declared.replies.Due.{Due}}
use Rattle.ulfm_judge.specs.CallsAt.{CallAt, call_of}
use Rattle.ulfm_numbers.specs.{Groups.{same_ranks}, Seen.{Seen, decision_in, failed_in, is_decided_in, is_made_in, seen_of}}
use Rattle.ulfm_judge.specs.Tests.{arrives_test, revokes_test}
use Rattle.ulfm_numbers.specs.Tests.{ids_test}

-- whether two refusals are one, by their numbers
abbrev pub same_refusal : Refusal → Refusal → Bool
same_refusal r s = (printed r).0 == (printed s).0

-- whether two tests answer the same
abbrev pub same_answer : Bool → Bool → Bool
same_answer a b = if a then b else not b

-- the entry of a list that has one alone
abbrev pub only_of : {X : Type 0} → List X → Option X
only_of (x ∷ []) = Some x
only_of _ = None

-- whether a list has one entry alone, which passes a test
abbrev pub only_test : {X : Type 0} → (X → Bool) → List X → Bool
only_test p xs = option_map_or p (only_of xs) false

-- whether an event declares a rank
abbrev pub fails_test : {P : Type 0} → ℕ → Event P → Bool
fails_test r (Event.Fail s) = s == r
fails_test r _ = false

-- whether a reply is this refusal
abbrev pub refused_test : {P : Type 0} → Refusal → Reply P → Bool
refused_test refusal (Reply.Refused r) = same_refusal r refusal
refused_test refusal _ = false

-- whether a declaration is answered so, by whether the rank is declared and the outside's own events
abbrev pub fail_test : {P : Type 0} → Limits → Bool → List (Event P) → ℕ → Reply P → Bool
fail_test limits declared own r Reply.Declared = only_test (fails_test r) own && declared
fail_test limits declared own r Reply.AlreadyFailed = (length own == 0) && declared
fail_test limits declared own r (Reply.Refused refusal) = same_refusal refusal Refusal.NoSuchRank && ((length own == 0) && nat_le limits.ranks r)
fail_test limits declared own r _ = false

-- whether a call starts a request
abbrev pub starts_test : {P : Type 0} → Call P → Bool
starts_test (Call.Agree rank c value) = true
starts_test (Call.Shrink rank c) = true
starts_test (Call.Barrier rank c) = true
starts_test _ = false

-- whether a reply refuses for good, by whether the rank is declared and its own events
abbrev pub self_failed_test : {P : Type 0} → Bool → List (Event P) → Call P → Reply P → Bool
self_failed_test declared own asked reply = refused_test Refusal.SelfFailed reply && (declared && (not (starts_test asked) || (length own == 0)))

-- whether two offers are one, where pack tells flags apart
abbrev pub same_offer : {P : Type 0} → (P → ℕ) → Offer P → Offer P → Bool
same_offer pack (Offer.Flag x) (Offer.Flag y) = pack x == pack y
same_offer pack (Offer.Ctx x) (Offer.Ctx y) = x.bits == y.bits
same_offer pack _ _ = false

-- whether a contribution is the one that is due
abbrev pub given_test : {P : Type 0} → (P → ℕ) → Due P → Contribution P → Bool
given_test pack due given = same_offer pack given.offer due.offer && ((given.known.count == due.known) && (given.acked.count == due.acked))

-- whether an event is the contribution that is due, of a rank to a round
abbrev pub gives_test : {P : Type 0} → (P → ℕ) → ℕ → ℕ → ℕ → Due P → Event P → Bool
gives_test pack c k r due (Event.Settle d l s given) = (d == c) && ((l == k) && ((s == r) && given_test pack due given))
gives_test pack c k r due _ = false

-- whether the contribution that is due stands there
abbrev pub stands_test : {P : Type 0} → (P → ℕ) → Due P → Option (Slot P) → Bool
stands_test pack due (Some (Slot.Given given)) = given_test pack due given
stands_test pack due _ = false

-- whether the start of an agree or of a shrink is answered so, by the rank's own events, by what stands at its place, and by what is due; the wing of
-- its place may be set at any time, since no line tells of it
abbrev pub start_test : {P : Type 0} → (P → ℕ) → List (Event P) → Option (Slot P) → ℕ → Held → Due P → Reply P → Bool
start_test pack own stood r x due Reply.Started = only_test (gives_test pack x.comm x.next_agreement r due) own && stands_test pack due stood
start_test pack own stood r x due (Reply.Refused refusal) = same_refusal refusal Refusal.Twice && (length own == 0)
start_test pack own stood r x due _ = false

-- the contribution that is due of a call which offers this: it knows the failures that the look found on the communicator
abbrev pub due_of : {P : Type 0} → CallAt P → Held → Offer P → Due P
due_of call x offer = record { offer = offer; known = length (filter (has x.group) call.look); acked = x.acked }

-- whether a call that offers this is answered so
abbrev pub offer_test : {P : Type 0} → (P → ℕ) → CallAt P → Held → Offer P → Reply P → Bool
offer_test pack call x offer reply =
    let r = call.caller.number in start_test pack call.own (call.seen.slots (x.comm, x.next_agreement, r)) r x (due_of call x offer) reply

-- whether the start of a barrier is answered so, by whether the rank has arrived, and its own events
abbrev pub barrier_start_test : {P : Type 0} → Bool → List (Event P) → ℕ → Held → Reply P → Bool
barrier_start_test arrived own r x Reply.Started = arrived && only_test (arrives_test x.comm x.next_barrier r) own
barrier_start_test arrived own r x (Reply.Refused refusal) = arrived && (same_refusal refusal Refusal.Twice && (length own == 0))
barrier_start_test arrived own r x _ = false

-- whether a revocation is answered so
abbrev pub revoke_test : {P : Type 0} → Bool → List (Event P) → ℕ → Reply P → Bool
revoke_test revoked own c Reply.Revoked = revoked && only_test (revokes_test c) own
revoke_test revoked own c Reply.AlreadyRevoked = revoked && (length own == 0)
revoke_test revoked own c _ = false

-- whether it is answered so, whether a communicator is revoked
abbrev pub standing_test : {P : Type 0} → Bool → Reply P → Bool
standing_test revoked (Reply.Standing told) = same_answer told revoked
standing_test revoked _ = false

-- whether a reply says that a communicator was given back
abbrev pub freed_test : {P : Type 0} → Reply P → Bool
freed_test Reply.Freed = true
freed_test _ = false

-- whether a reply says this size of the failed group
abbrev pub group_test : {P : Type 0} → ℕ → Reply P → Bool
group_test size (Reply.FailedGroup count) = count == size
group_test size _ = false

-- whether a reply says that so many are acknowledged
abbrev pub acked_test : {P : Type 0} → ℕ → Reply P → Bool
acked_test now (Reply.Acked count) = count == now
acked_test now _ = false

-- whether a reply says that the request stays open
abbrev pub pending_said : {P : Type 0} → Reply P → Bool
pending_said Reply.Pending = true
pending_said _ = false

-- whether a rank that the look didn't find declared is unsettled
abbrev pub late_test : {P : Type 0} → List ℕ → Seen P → ℕ → ℕ → ℕ → Bool
late_test look seen c k r = not (has look r) && not (is_some (seen.slots (c, k, r)))

-- whether a member is such a rank
abbrev pub pending_test : {P : Type 0} → List ℕ → Seen P → Held → ℕ → Bool
pending_test look seen x k = list_any (late_test look seen x.comm k) x.group

-- whether a body is this flag
abbrev pub flag_test : {P : Type 0} → (P → ℕ) → Body P → P → Bool
flag_test pack (Body.Flag x) value = pack x == pack value
flag_test pack _ value = false

-- whether a body is a clash
abbrev pub clash_test : {P : Type 0} → Body P → Bool
clash_test Body.Clash = true
clash_test _ = false

-- whether a body is an empty set of ids
abbrev pub no_ids_test : {P : Type 0} → Body P → Bool
no_ids_test (Body.Ctx mask) = mask.bits == 0
no_ids_test _ = false

-- whether a body is a set of ids with this one as its least
abbrev pub least_test : {P : Type 0} → Body P → ℕ → Bool
least_test (Body.Ctx mask) context = nat_lt 0 mask.bits && (context == lowest_id mask.bits)
least_test _ context = false

-- whether a communicator was made of this round
abbrev pub made_test : Option (ℕ × ℕ) → ℕ → ℕ → Bool
made_test (Some made) c k = (made.0 == c) && (made.1 == k)
made_test None c k = false

-- whether an agree's poll is answered so, by whether the round is pending, whether it is decided, and its decision
abbrev pub agree_test : {P : Type 0} → (P → ℕ) → Bool → Bool → Decision P → Reply P → Bool
agree_test pack late decided made Reply.Pending = late
agree_test pack late decided made (Reply.Agreed raised count value) =
    decided && (flag_test pack made.body value && ((count == length made.failed) && same_answer raised made.raised))
agree_test pack late decided made (Reply.Refused refusal) = decided && (same_refusal refusal Refusal.Mismatch && clash_test made.body)
agree_test pack late decided made _ = false

-- whether no room is left for what a shrink would make of this round
abbrev pub full_test : {P : Type 0} → CallAt P → ℕ → ℕ → Decision P → Bool
full_test call c k made =
    ids_test made.body
    && (not (has made.failed call.caller.number) && ((length call.seen.spawns + 1 == call.limits.comms) && not (is_made_in call.seen c k)))

-- whether a decided shrink is refused so
abbrev pub unmade_test : {P : Type 0} → CallAt P → ℕ → ℕ → Decision P → Refusal → Bool
unmade_test call c k made refusal =
    (same_refusal refusal Refusal.NoContext && no_ids_test made.body)
    || ((same_refusal refusal Refusal.NoRoom && full_test call c k made) || (same_refusal refusal Refusal.Mismatch && clash_test made.body))

-- whether a decided shrink made the communicator that a reply names
abbrev pub shrunk_test : {P : Type 0} → CallAt P → ℕ → ℕ → Decision P → Named → Bool
shrunk_test call c k made named =
    least_test made.body named.context
    && (not (has made.failed call.caller.number) && (nat_lt 0 named.comm && (made_test (slice_get call.seen.spawns (named.comm - 1)) c k
    && (named.size == length (call.seen.members named.comm)))))

-- whether a shrink's poll is answered so, by whether the round is pending, whether it is decided, and its decision
abbrev pub shrink_test : {P : Type 0} → CallAt P → ℕ → ℕ → Bool → Bool → Decision P → Reply P → Bool
shrink_test call c k late decided made Reply.Pending = late
shrink_test call c k late decided made (Reply.Shrunk j context size) =
    decided && shrunk_test call c k made (record { comm = j; context = context; size = size })
shrink_test call c k late decided made (Reply.Refused refusal) = decided && unmade_test call c k made refusal
shrink_test call c k late decided made _ = false

-- whether a barrier's poll is answered so: by whether its communicator is revoked, whether all have arrived, and whether all have whom the
-- look found declared
abbrev pub barrier_test : {P : Type 0} → Bool → Bool → Bool → Reply P → Bool
barrier_test revoked all known Reply.Done = not revoked && all
barrier_test revoked all known Reply.Pending = not revoked && (not all && known)
barrier_test revoked all known (Reply.Refused refusal) =
    if revoked then same_refusal refusal Refusal.IsRevoked else (not all && (not known && same_refusal refusal Refusal.ProcFailed))
barrier_test revoked all known _ = false

module _ {P : Type 0} (meld : P → P → P) (pack : P → ℕ) (call : CallAt P) where
  -- whether the poll of a request is answered so
  abbrev pub polled_test : Held → Option Request → Reply P → Bool
  polled_test x None reply = false
  polled_test x (Some (Request.Agree k)) reply =
      agree_test pack (pending_test call.look call.seen x k) (is_decided_in call.seen x.comm k) (decision_in meld call.seen x.comm k) reply
  polled_test x (Some (Request.Shrink k)) reply =
      shrink_test call x.comm k (pending_test call.look call.seen x k) (is_decided_in call.seen x.comm k) (decision_in meld call.seen x.comm k) reply
  polled_test x (Some (Request.Barrier k)) reply =
      barrier_test (call.seen.revoked x.comm) (list_all (λ m. call.seen.arrived (x.comm, k, m)) x.group)
      (list_all (λ m. call.seen.arrived (x.comm, k, m)) (filter (has x.group) call.look)) reply

  -- whether a call that the record doesn't refuse is answered so
  abbrev pub replied_test : Held → Call P → Reply P → Bool
  replied_test x (Call.Fail rank) reply = false
  replied_test x (Call.GetFailed rank c) reply = same_ranks call.seen.failures call.look && group_test (length (failed_in call.seen c)) reply
  replied_test x (Call.FailureGetAcked rank c) reply =
      same_ranks call.seen.failures call.look && group_test (length (take x.acked (failed_in call.seen c))) reply
  replied_test x (Call.Ack rank c count) reply =
      same_ranks call.seen.failures call.look && acked_test (max x.acked (min count (length (failed_in call.seen c)))) reply
  replied_test x (Call.FailureAck rank c) reply =
      same_ranks call.seen.failures call.look && acked_test (max x.acked (min most_failures (length (failed_in call.seen c)))) reply
  replied_test x (Call.Agree rank c value) reply = offer_test pack call x (Offer.Flag value) reply
  replied_test x (Call.Shrink rank c) reply = offer_test pack call x (Offer.Ctx (free_ids call.caller.held)) reply
  replied_test x (Call.Barrier rank c) reply =
      barrier_start_test (call.seen.arrived (x.comm, x.next_barrier, call.caller.number)) call.own call.caller.number x reply
  replied_test x (Call.Poll rank c) reply = polled_test x x.request reply
  replied_test x (Call.Revoke rank c) reply = revoke_test (call.seen.revoked c) call.own c reply
  replied_test x (Call.IsRevoked rank c) reply = standing_test (call.seen.revoked c) reply
  replied_test x (Call.Free rank c) reply = freed_test reply

  -- the same, by what the rank holds and the refusal by its record
  abbrev pub by_record_test : Option Held → Call P → Reply P → Option Refusal → Bool
  by_record_test held asked reply (Some refusal) = refused_test refusal reply
  by_record_test (Some x) asked reply None = replied_test x asked reply
  by_record_test None asked reply None = false

  -- whether a rank's call is answered so, after its look
  abbrev pub looked_test : Call P → Reply P → Bool
  looked_test asked reply =
      self_failed_test (call.seen.declared call.caller.number) call.own asked reply
      || (not (has call.look call.caller.number)
      && by_record_test (held_at call.caller (comm_of asked)) asked reply (refusal_of call.caller asked))

-- whether a rank's call is answered so, by its record
abbrev pub rank_test : {P : Type 0} → (P → P → P) → (P → ℕ) → Traced P → Under P → ℕ → Reply P → Option Record → Bool
rank_test meld pack now u point reply None = refused_test Refusal.NoSuchRank reply
rank_test meld pack now u point reply (Some old) =
    if old.refused then refused_test Refusal.SelfFailed reply
    else (is_some u.look && looked_test meld pack (call_of now.limits (view_at now u point) old) u.asked reply)

-- whether a caller's call is answered so
abbrev pub call_test : {P : Type 0} → (P → P → P) → (P → ℕ) → Traced P → Caller → Under P → ℕ → Reply P → Bool
call_test meld pack now Caller.Outside u point reply =
    fail_test now.limits ((seen_of now.limits.ranks (take point now.history)).declared (rank_of u.asked)) u.own (rank_of u.asked) reply
call_test meld pack now (Caller.Rank r) u point reply = rank_test meld pack now u point reply (record_in now r)

-- the group that a reply lists, which is about communicator c
abbrev pub listed_in : {P : Type 0} → Seen P → ℕ → Reply P → List ℕ
listed_in seen c (Reply.Shrunk j context size) = seen.members j
listed_in seen c (Reply.FailedGroup count) = failed_in seen c
listed_in seen c _ = []

-- whether a line that tells of a reply, and lists this group, may come, by the call of its caller
abbrev pub reply_test : {P : Type 0} → (P → P → P) → (P → ℕ) → Traced P → List ℕ → Line P → Option (Under P) → Bool
reply_test meld pack now group (Line.Replied by point (Some reply)) (Some u) =
    nat_le u.begun point && (nat_le point (length now.history) && (call_test meld pack now by u point reply
    && same_ranks group (listed_in (seen_of now.limits.ranks (take point now.history)) (comm_of u.asked) reply)))
reply_test meld pack now group line call = false
