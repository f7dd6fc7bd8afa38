-- Legal traces: what lines say happened, which line may come after them, and why a line may not.
use Rattle.std.specs.{Prelude.{◌≡◌, ◌⊎◌, ℕ, ◌≤◌, ◌==◌, Bool, true, false, not, ⊤, if◌then◌else◌, IsTrue, IsFalse}, Option.{option_map_or}}
use Rattle.std.specs.Prelude.{List, [], ◌∷◌, ◌++◌, length, filter, find, map, take, unwrap_or, Option, Some, None, is_some}
use Rattle.ulfm_model.specs.declared.{call.Call.{Call}, event.Caller.{Caller}, event.Event.{Event}, limits.Limits.{Limits}}
use Rattle.ulfm_model.specs.declared.{refusal.Refusal.{Refusal}, reply.Reply.{Reply}}
use Rattle.ulfm_model.specs.Answers.{AnswersFail, IsReply, IsSelfFailed, MayOwn, AtPoint, comm_of, left_by, rank_of, traits_of}
use Rattle.ulfm_model.specs.{History.{History, MayFollow, failed, failures, first_ranks, members, says}, Records.{Record, new_record}}
use Rattle.ulfm_model.specs.declared.line.{Line.{Line}, Why.{Why}}

-- a line, with the ranks that it lists where it is a reply
pub record Told (P : Type 0) : Type 0 where
  pub line : Line P
  pub group : List ℕ

-- a call under way: how many events there were when it began; how many failures its look found, if it was made; the caller's own events since
pub record Under (P : Type 0) : Type 0 where
  pub asked : Call P
  pub begun : ℕ
  pub look : Option ℕ
  pub own : List (Event P)

-- what lines say: the history, what each rank holds, and the calls under way
pub record Traced (P : Type 0) : Type 0 where
  pub limits : Limits
  pub history : History P
  pub records : List Record
  pub calls : List (Under P)

-- whether two callers are one
abbrev pub same_caller : Caller → Caller → Bool
same_caller Caller.Outside Caller.Outside = true
same_caller (Caller.Rank r) (Caller.Rank s) = r == s
same_caller _ _ = false

-- whose call is under way
abbrev pub caller_of : {P : Type 0} → Under P → Caller
caller_of u = (traits_of u.asked).by

-- the call that a caller has under way
abbrev pub call_by : {P : Type 0} → Traced P → Caller → Option (Under P)
call_by now by = find (λ u. same_caller (caller_of u) by) now.calls

-- a caller has a call under way
abbrev pub IsOpen : {P : Type 0} → Traced P → Caller → Type 0
IsOpen now by = IsTrue (is_some (call_by now by))

-- the record of a rank, where the world has it
abbrev pub record_in : {P : Type 0} → Traced P → ℕ → Option Record
record_in now r = find (λ own. own.number == r) now.records

-- the failures that a call's look found, the first so many; nobody where it made none
abbrev pub found_by : {P : Type 0} → Traced P → Under P → List ℕ
found_by now u = take (unwrap_or u.look 0) (failures now.history)

-- what a reply rests on at a point, which is the number of events before it. Lines tell of no wing, so that one may be set at any time
abbrev pub view_at : {P : Type 0} → Traced P → Under P → ℕ → AtPoint P
view_at now u point = record { look = found_by now u; history = take point now.history; own = u.own; spread = true }

-- a look is due: the rank's call has made none, and the world has the rank, which wasn't refused for good before
pub record IsLookDue {P : Type 0} (now : Traced P) (r : ℕ) : Type 0 where
  pub call : Under P
  pub is_open : call_by now (Caller.Rank r) ≡ Some call
  pub first : call.look ≡ None
  pub own : Record
  pub has_record : record_in now r ≡ Some own
  pub in_use : IsFalse own.refused

-- the event is one that a rank may add: its call's own, after its look
pub record MayAdd {P : Type 0} (now : Traced P) (r : ℕ) (event : Event P) : Type 0 where
  pub call : Under P
  pub is_open : call_by now (Caller.Rank r) ≡ Some call
  pub looked : IsTrue (is_some call.look)
  pub own : Record
  pub has_record : record_in now r ≡ Some own
  pub may_own : MayOwn (found_by now call) own call.asked event

-- the event is one that its caller may add; the outside may add any
abbrev pub MayAddBy : {P : Type 0} → Traced P → Caller → Event P → Type 0
MayAddBy now Caller.Outside event = ⊤
MayAddBy now (Caller.Rank r) event = MayAdd now r event

-- the group that a reply lists, which is about communicator c
abbrev pub listed : {P : Type 0} → ℕ → History P → ℕ → Reply P → List ℕ
listed ranks h c (Reply.Shrunk j context size) = members ranks h j
listed ranks h c (Reply.FailedGroup count) = failed ranks h c
listed ranks h c _ = []

-- an answer to a rank's call: the world doesn't have the rank; it was refused for good before; or any other, after its look
abbrev pub AnswersRank : {P : Type 0} → (P → P → P) → Traced P → Under P → ℕ → Reply P → Option Record → Type 0
AnswersRank meld now u point reply None = reply ≡ Reply.Refused Refusal.NoSuchRank
AnswersRank meld now u point reply (Some own) =
    (IsTrue own.refused × (reply ≡ Reply.Refused Refusal.SelfFailed))
    ⊎ (IsFalse own.refused × IsTrue (is_some u.look)
    × (IsSelfFailed (view_at now u point) own u.asked reply ⊎ IsReply meld now.limits (view_at now u point) own u.asked reply))

-- an answer to a caller's call
abbrev pub AnswersCall : {P : Type 0} → (P → P → P) → Traced P → Caller → Under P → ℕ → Reply P → Type 0
AnswersCall meld now Caller.Outside u point reply = AnswersFail now.limits (view_at now u point) (rank_of u.asked) reply
AnswersCall meld now (Caller.Rank r) u point reply = AnswersRank meld now u point reply (record_in now r)

-- the reply is an answer to the caller's call at a point between the call's begin and now, and lists the group that it is about
pub record MayReply {P : Type 0} (meld : P → P → P) (now : Traced P) (by : Caller) (point : ℕ) (group : List ℕ) (reply : Reply P) : Type 0 where
  pub call : Under P
  pub is_open : call_by now by ≡ Some call
  pub since_begin : call.begun ≤ point
  pub by_now : point ≤ length now.history
  pub answers : AnswersCall meld now by call point reply
  pub lists : group ≡ listed now.limits.ranks (take point now.history) (comm_of call.asked) reply

-- the line may come next; its caller has a call under way where it is a look or a reply, and none where a call begins
abbrev pub MayCome : {P : Type 0} → (P → P → P) → Traced P → List ℕ → Line P → Type 0
MayCome meld now group (Line.Called asked padded) = call_by now (traits_of asked).by ≡ None
MayCome meld now group (Line.Looked r count) = IsLookDue now r × (count ≡ length (failures now.history))
MayCome meld now group (Line.Happened by None) = ⊥
MayCome meld now group (Line.Happened by (Some event)) = MayFollow meld now.limits now.history event × MayAddBy now by event
MayCome meld now group (Line.Replied by point None) = ⊥
MayCome meld now group (Line.Replied by point (Some reply)) = MayReply meld now by point group reply

-- the reason is that the first of two tests fails, or that it holds and the second fails
abbrev pub FailsAt : Why → Type 0 → Why → Type 0 → Why → Type 0
FailsAt one first other second reason = ((reason ≡ one) × ¬ first) ⊎ ((reason ≡ other) × first × ¬ second)

-- the line may not come next, and this is the reason: the first of its tests that fails
abbrev pub IsBad : {P : Type 0} → (P → P → P) → Traced P → List ℕ → Line P → Why → Type 0
IsBad meld now group (Line.Called asked padded) reason = (reason ≡ Why.Call) × ¬ MayCome meld now group (Line.Called asked padded)
IsBad meld now group (Line.Looked r count) reason =
    FailsAt Why.Call (IsOpen now (Caller.Rank r)) Why.Look (MayCome meld now group (Line.Looked r count)) reason
IsBad meld now group (Line.Happened by None) reason = reason ≡ Why.Event
IsBad meld now group (Line.Happened by (Some event)) reason =
    FailsAt Why.Event (MayFollow meld now.limits now.history event) Why.Own (MayAddBy now by event) reason
IsBad meld now group (Line.Replied by point reply) reason =
    FailsAt Why.Call (IsOpen now by) Why.Reply (MayCome meld now group (Line.Replied by point reply)) reason

-- whether an event in a caller's name is its call's own: each of a rank's is, and of the outside's the declaration that was asked for
abbrev pub is_owned : {P : Type 0} → Under P → Event P → Bool
is_owned u event = if same_caller (caller_of u) Caller.Outside then option_map_or (λ r. r == rank_of u.asked) (says event).declares false else true

-- a call with a further event of its caller
abbrev pub with_event : {P : Type 0} → Event P → Under P → Under P
with_event event u = if is_owned u event then record u { own = u.own ++ event ∷ [] } else u

-- the calls, with the one of a caller as it is after f
abbrev pub change_by : {P : Type 0} → Caller → (Under P → Under P) → List (Under P) → List (Under P)
change_by by f [] = []
change_by by f (u ∷ calls) = if same_caller (caller_of u) by then f u ∷ calls else u ∷ change_by by f calls

-- a rank's record after a reply at this point to its call; a look made it see what was found
abbrev pub taken_in : {P : Type 0} → Traced P → Under P → ℕ → Reply P → Record → Record
taken_in now u point reply own =
    let seen = if is_some u.look then found_by now u else own.seen in
    left_by now.limits.ranks (take point now.history) (record own { seen = seen }) u.asked reply

-- the records after a reply to a caller's call
abbrev pub records_after : {P : Type 0} → Traced P → Caller → Under P → ℕ → Reply P → List Record
records_after now Caller.Outside u point reply = now.records
records_after now (Caller.Rank r) u point reply = map (λ own. if own.number == r then taken_in now u point reply own else own) now.records

-- what is said after a reply; the call that it answers is no longer under way
abbrev pub after_reply : {P : Type 0} → Traced P → Caller → ℕ → Reply P → Option (Under P) → Traced P
after_reply now by point reply None = now
after_reply now by point reply (Some u) =
    record now { records = records_after now by u point reply; calls = filter (λ v. not (same_caller (caller_of v) by)) now.calls }

-- what is said after a line that may come
abbrev pub after : {P : Type 0} → Traced P → Line P → Traced P
after now (Line.Called asked padded) =
    record now { calls = now.calls ++ record { asked = asked; begun = length now.history; look = None; own = [] } ∷ [] }
after now (Line.Looked r count) = record now { calls = change_by (Caller.Rank r) (λ u. record u { look = Some count }) now.calls }
after now (Line.Happened by (Some event)) =
    record now { history = now.history ++ record { by = by; event = event } ∷ []; calls = change_by by (with_event event) now.calls }
after now (Line.Replied by point (Some reply)) = after_reply now by point reply (call_by now by)
after now _ = now

-- nothing is said yet
abbrev pub nothing : {P : Type 0} → Limits → Traced P
nothing limits = record { limits = limits; history = []; records = map (new_record limits) (first_ranks limits.ranks); calls = [] }

-- each line may come after those before it
abbrev pub AreLegalAfter : {P : Type 0} → (P → P → P) → Traced P → List (Told P) → Type 0
AreLegalAfter meld now [] = ⊤
AreLegalAfter meld now (told ∷ rest) = MayCome meld now told.group told.line × AreLegalAfter meld (after now told.line) rest

-- the lines behind a header with these limits are a legal trace
abbrev pub IsLegalTrace : {P : Type 0} → (P → P → P) → Limits → List (Told P) → Type 0
IsLegalTrace meld limits lines = AreLegalAfter meld (nothing limits) lines

-- what lines say
abbrev pub said_by : {P : Type 0} → Traced P → List (Told P) → Traced P
said_by now [] = now
said_by now (told ∷ rest) = said_by (after now told.line) rest

-- a line was taken: it is judged, and where it may come, what lines say goes on
abbrev pub Takes : {P : Type 0} → (P → P → P) → Traced P → List ℕ → Line P → Traced P → Option Why → Type 0
Takes meld old group line new None = MayCome meld old group line × (new ≡ after old line)
Takes meld old group line new (Some reason) = IsBad meld old group line reason × (new ≡ old)
