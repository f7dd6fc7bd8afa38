-- The sequential object as a function: what each call adds and replies where nobody else steps, and the next state. Nothing here
-- has to be believed: that it computes the steps of the object, and the only ones, is a law.
use Rattle.std.specs.Prelude.{ℕ, ◌+◌, ◌==◌, nat_lt, min, max, Bool, true, false, not, ◌&&◌, if◌then◌else◌}
use Rattle.std.specs.Prelude.{List, [], ◌∷◌, ◌++◌, length, take, filter, filter_map, find, unwrap_or, Option, Some, None, is_some}
use Rattle.std.specs.{Int.{bit_at}, List.{enumerate_from, position_from}}
pub use Rattle.ulfm_laws.specs.Within.{acked_at, known_at}
use Rattle.ulfm_laws.specs.{Within.{acked_known, known_from_one, some_known}, declared.summary.Body.{Body}}
use Rattle.ulfm_model.specs.declared.{call.Call.{Call}, call.Request.{Request}, event.Caller.{Caller}, event.Event.{Event}, limits.Limits.{Limits}}
use Rattle.ulfm_model.specs.declared.{contribution.Contribution.{Contribution}, contribution.MarkCount.{MarkCount}, contribution.Offer.{Offer}}
use Rattle.ulfm_model.specs.declared.{contribution.Slot.{Slot}, refusal.Refusal.{Refusal}, reply.Reply.{Reply}}
use Rattle.ulfm_laws.specs.Ranges.{payload_bits}
use Rattle.ulfm_model.specs.{Answers.{AtPoint, barrier_reply, left_by, most_failures, rank_of, refusal_of}, Records.{Held, Record, free_ids, held_at}, Runs.{State}}
use Rattle.ulfm_model.specs.History.{Decision, History, decision, entries_by, failed, failures, first_ranks, has, has_arrived, is_decided}
use Rattle.ulfm_model.specs.{History.{is_made, is_revoked, members, slot, spawns}, Terms.{after_call, comm_of, record_at}}

-- a mark of the n-th failure, counted from 1
abbrev pub mark_at : ℕ → MarkCount
mark_at n = record { known = known_from_one n; counted = some_known n }

-- a contribution with these counts
abbrev pub given_at : {P : Type 0} → Offer P → ℕ → ℕ → Contribution P
given_at offer known acked = record { offer = offer; known = known_at known; acked = acked_at acked known; within = acked_known acked known }

-- what a start contributes, where the rank's place is empty
abbrev pub settle_of : {P : Type 0} → History P → ℕ → Held → Offer P → List (Event P)
settle_of h r x offer =
    let known = length (filter (has x.group) (failures h)) in
    if is_some (slot h x.comm x.next_agreement r) then [] else Event.Settle x.comm x.next_agreement r (given_at offer known x.acked) ∷ []

-- the mark of a member that is declared as the n-th, where its place is empty
abbrev pub mark_of : {P : Type 0} → History P → ℕ → ℕ → ℕ × ℕ → Option (Event P)
mark_of h c k place = if is_some (slot h c k place.1) then None else Some (Event.Mark c k place.1 (mark_at place.0))

-- the marks of all unsettled declared members of a round, in the order of their failures
abbrev pub marks_of : {P : Type 0} → ℕ → History P → ℕ → ℕ → List (Event P)
marks_of ranks h c k = filter_map (mark_of h c k) (enumerate_from 1 (failed ranks h c))

-- whether a body is a set of ids that isn't empty
abbrev pub is_free_mask : {P : Type 0} → Body P → Bool
is_free_mask Body.Unit = false
is_free_mask (Body.Flag flag) = false
is_free_mask (Body.Ctx mask) = nat_lt 0 mask.bits
is_free_mask Body.Clash = false

-- the communicator that rank r makes of a round: decided on free ids, which don't leave r out, not made before, and with room
abbrev pub spawn_of : {P : Type 0} → (P → P → P) → Limits → History P → ℕ → ℕ → ℕ → List (Event P)
spawn_of meld limits h r c k =
    let made = decision meld limits.ranks h c k in
    if is_decided limits.ranks h c k
    && (is_free_mask made.body && (not (has made.failed r) && (not (is_made h c k) && nat_lt (length (spawns h) + 1) limits.comms)))
    then Event.Spawn (length (spawns h) + 1) c k ∷ [] else []

-- what the poll of a request adds
abbrev pub added_by_poll : {P : Type 0} → (P → P → P) → Limits → History P → ℕ → ℕ → Option Request → List (Event P)
added_by_poll meld limits h r c None = []
added_by_poll meld limits h r c (Some (Request.Agree k)) = marks_of limits.ranks h c k
added_by_poll meld limits h r c (Some (Request.Shrink k)) =
    let marks = marks_of limits.ranks h c k in marks ++ spawn_of meld limits (h ++ entries_by (Caller.Rank r) marks) r c k
added_by_poll meld limits h r c (Some (Request.Barrier k)) = []

-- what a call adds that the record doesn't refuse
abbrev pub added : {P : Type 0} → (P → P → P) → Limits → History P → Record → Held → Call P → List (Event P)
added meld limits h own x (Call.Fail rank) = []
added meld limits h own x (Call.GetFailed rank c) = []
added meld limits h own x (Call.FailureGetAcked rank c) = []
added meld limits h own x (Call.Ack rank c count) = []
added meld limits h own x (Call.FailureAck rank c) = []
added meld limits h own x (Call.Agree rank c value) = settle_of h own.number x (Offer.Flag value)
added meld limits h own x (Call.Shrink rank c) = settle_of h own.number x (Offer.Ctx (free_ids own.held))
added meld limits h own x (Call.Barrier rank c) =
    if has_arrived h x.comm x.next_barrier own.number then [] else Event.Arrive x.comm x.next_barrier own.number ∷ []
added meld limits h own x (Call.Poll rank c) = added_by_poll meld limits h own.number x.comm x.request
added meld limits h own x (Call.Revoke rank c) = if is_revoked h c then [] else Event.Revoke c ∷ []
added meld limits h own x (Call.IsRevoked rank c) = []
added meld limits h own x (Call.Free rank c) = []

-- the reply to a start, by what stood at the rank's place before
abbrev pub start_reply : {P : Type 0} → Option (Slot P) → Reply P
start_reply None = Reply.Started
start_reply (Some (Slot.Mark mark)) = Reply.Refused Refusal.SelfFailed
start_reply (Some (Slot.Given given)) = Reply.Refused Refusal.Twice

-- the reply of a decided agree; its caller gave a flag, so the round decides on a flag or clashes
abbrev pub agree_reply : {P : Type 0} → Decision P → Body P → Reply P
agree_reply made Body.Unit = Reply.Refused Refusal.Mismatch
agree_reply made (Body.Flag value) = Reply.Agreed made.raised (length made.failed) value
agree_reply made (Body.Ctx mask) = Reply.Refused Refusal.Mismatch
agree_reply made Body.Clash = Reply.Refused Refusal.Mismatch

-- the least id of a mask
abbrev pub lowest_id : ℕ → ℕ
lowest_id mask = unwrap_or (find (λ i. bit_at mask i == 1) (first_ranks payload_bits)) 0

-- the reply of a shrink's poll that found this mask, by where its round stands among those that were made
abbrev pub shrunk_reply : {P : Type 0} → ℕ → History P → ℕ → Option ℕ → Reply P
shrunk_reply ranks h mask None = Reply.Refused Refusal.NoRoom
shrunk_reply ranks h mask (Some i) = Reply.Shrunk (i + 1) (lowest_id mask) (length (members ranks h (i + 1)))

-- the reply of a decided shrink; its caller gave a mask, so the round decides on a mask or clashes
abbrev pub shrink_reply : {P : Type 0} → ℕ → History P → ℕ → ℕ → ℕ → Decision P → Body P → Reply P
shrink_reply ranks h r c k made Body.Unit = Reply.Refused Refusal.Mismatch
shrink_reply ranks h r c k made (Body.Flag value) = Reply.Refused Refusal.Mismatch
shrink_reply ranks h r c k made (Body.Ctx mask) =
    if mask.bits == 0 then Reply.Refused Refusal.NoContext
    else (if has made.failed r then Reply.Refused Refusal.SelfFailed
    else shrunk_reply ranks h mask.bits (position_from (λ made. (made.0 == c) && (made.1 == k)) 0 (spawns h)))
shrink_reply ranks h r c k made Body.Clash = Reply.Refused Refusal.Mismatch

-- the reply of a poll
abbrev pub poll_reply : {P : Type 0} → (P → P → P) → Limits → AtPoint P → ℕ → Held → Option Request → Reply P
poll_reply meld limits view r x None = Reply.Pending
poll_reply meld limits view r x (Some (Request.Agree k)) =
    let made = decision meld limits.ranks view.history x.comm k in
    if is_decided limits.ranks view.history x.comm k then agree_reply made made.body else Reply.Pending
poll_reply meld limits view r x (Some (Request.Shrink k)) =
    let made = decision meld limits.ranks view.history x.comm k in
    if is_decided limits.ranks view.history x.comm k then shrink_reply limits.ranks view.history r x.comm k made made.body else Reply.Pending
poll_reply meld limits view r x (Some (Request.Barrier k)) = barrier_reply view x k

-- the reply of a call that the record doesn't refuse, by the history before it and by its view at the end
abbrev pub replied : {P : Type 0} → (P → P → P) → Limits → History P → AtPoint P → Record → Held → Call P → Reply P
replied meld limits h view own x (Call.Fail rank) = Reply.Refused Refusal.NoSuchRank
replied meld limits h view own x (Call.GetFailed rank c) = Reply.FailedGroup (length (failed limits.ranks view.history c))
replied meld limits h view own x (Call.FailureGetAcked rank c) = Reply.FailedGroup (length (take x.acked (failed limits.ranks view.history c)))
replied meld limits h view own x (Call.Ack rank c count) = Reply.Acked (max x.acked (min count (length (failed limits.ranks view.history c))))
replied meld limits h view own x (Call.FailureAck rank c) = Reply.Acked (max x.acked (min most_failures (length (failed limits.ranks view.history c))))
replied meld limits h view own x (Call.Agree rank c value) = start_reply (slot h x.comm x.next_agreement own.number)
replied meld limits h view own x (Call.Shrink rank c) = start_reply (slot h x.comm x.next_agreement own.number)
replied meld limits h view own x (Call.Barrier rank c) = if has_arrived h x.comm x.next_barrier own.number then Reply.Refused Refusal.Twice else Reply.Started
replied meld limits h view own x (Call.Poll rank c) = poll_reply meld limits view own.number x x.request
replied meld limits h view own x (Call.Revoke rank c) = if is_revoked h c then Reply.AlreadyRevoked else Reply.Revoked
replied meld limits h view own x (Call.IsRevoked rank c) = Reply.Standing (is_revoked view.history c)
replied meld limits h view own x (Call.Free rank c) = Reply.Freed

-- what a call adds and what it replies
pub record CallOutcome (P : Type 0) : Type 0 where
  pub own : List (Event P)
  pub reply : Reply P

-- a call that its record doesn't refuse, of a rank that isn't declared
abbrev pub held_outcome : {P : Type 0} → (P → P → P) → Limits → History P → Record → Held → Call P → CallOutcome P
held_outcome {P} meld limits h own x asked =
    let events = added meld limits h own x asked in
    let view : AtPoint P = record { look = failures h; history = h ++ entries_by (Caller.Rank own.number) events; own = events; spread = false } in
    record { own = events; reply = replied meld limits h view own x asked }

-- the same by what the record says first
abbrev pub used_outcome : {P : Type 0} → (P → P → P) → Limits → History P → Record → Option Held → Option Refusal → Call P → CallOutcome P
used_outcome meld limits h own held (Some refusal) asked = record { own = []; reply = Reply.Refused refusal }
used_outcome meld limits h own (Some x) None asked = held_outcome meld limits h own x asked
used_outcome meld limits h own None None asked = record { own = []; reply = Reply.Refused Refusal.SelfFailed }

-- a call of a rank that wasn't refused for good before, by whether it is declared
abbrev pub rank_outcome : {P : Type 0} → (P → P → P) → Limits → History P → Record → Call P → Bool → CallOutcome P
rank_outcome meld limits h own asked true = record { own = []; reply = Reply.Refused Refusal.SelfFailed }
rank_outcome meld limits h own asked false = used_outcome meld limits h own (held_at own (comm_of asked)) (refusal_of own asked) asked

-- a call of a rank that wasn't refused for good before
abbrev pub outcome_of : {P : Type 0} → (P → P → P) → Limits → History P → Record → Call P → CallOutcome P
outcome_of meld limits h own asked = rank_outcome meld limits h own asked (has (failures h) own.number)

-- the outside's declaration of a rank
abbrev pub fail_outcome : {P : Type 0} → Limits → History P → ℕ → CallOutcome P
fail_outcome limits h r =
    if nat_lt r limits.ranks then (if has (failures h) r then (record { own = []; reply = Reply.AlreadyFailed })
    else (record { own = Event.Fail r ∷ []; reply = Reply.Declared }))
    else (record { own = []; reply = Reply.Refused Refusal.NoSuchRank })

-- the reply and the next state
pub record Next (P : Type 0) : Type 0 where
  pub reply : Reply P
  pub state : State P

-- of a declaration
abbrev pub next_of_fail : {P : Type 0} → State P → ℕ → Next P
next_of_fail state r =
    let out = fail_outcome state.limits state.history r in
    record { reply = out.reply; state = record state { history = state.history ++ entries_by Caller.Outside out.own } }

-- of a call of rank r, by its record
abbrev pub next_by : {P : Type 0} → (P → P → P) → State P → ℕ → Record → Call P → Bool → Next P
next_by meld state r own asked true = record { reply = Reply.Refused Refusal.SelfFailed; state = state }
next_by meld state r own asked false =
    let out = outcome_of meld state.limits state.history own asked in
    let after = state.history ++ entries_by (Caller.Rank own.number) out.own in
    let left = left_by state.limits.ranks after (record own { seen = failures state.history }) asked out.reply in
    record { reply = out.reply; state = after_call state r after left }

-- of a call of rank r
abbrev pub next_of_rank : {P : Type 0} → (P → P → P) → State P → ℕ → Option Record → Call P → Next P
next_of_rank meld state r None asked = record { reply = Reply.Refused Refusal.NoSuchRank; state = state }
next_of_rank meld state r (Some own) asked = next_by meld state r own asked own.refused

-- of any call
abbrev pub next : {P : Type 0} → (P → P → P) → State P → Call P → Next P
next meld state (Call.Fail rank) = next_of_fail state rank
next meld state asked = next_of_rank meld state (rank_of asked) (record_at state (rank_of asked)) asked

-- the replies of calls one after another
abbrev pub replies : {P : Type 0} → (P → P → P) → State P → List (Call P) → List (Reply P)
replies meld state [] = []
replies meld state (asked ∷ calls) =
    let this = next meld state asked in this.reply ∷ replies meld this.state calls
