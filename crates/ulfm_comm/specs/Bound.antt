-- How many atomic steps a call of a rank makes at most, whatever the others do.
use Rattle.std.specs.Prelude.{ℕ, ◌+◌, ◌-◌, ◌*◌, ◌≤◌, length, Option, Some, None, is_some, if◌then◌else◌}
use Rattle.ulfm_model.specs.declared.call.Call.TheVariants as call
use Rattle.ulfm_model.specs.declared.{call.Call.{Call}, call.Request.{Request}, call.Request.TheVariants.{Agree, Shrink, Barrier}, limits.Limits.{Limits}}
use Rattle.ulfm_model.specs.{Answers.{refusal_of}, Records.{Record, held_at}}
use Rattle.ulfm_model.specs.Terms.{comm_of, request_of}
use Rattle.ulfm_words.specs.Steps.{Sight}
use Rattle.ulfm_comm.specs.{Requests.{BlocksStand}, StepsLeft.{group_of}}

-- How many steps the poll of a request makes at most, on a communicator of n members, in a world of N ranks and M communicators, by a rank that
-- has seen v failures. Where no request is open the poll is refused.
abbrev pub poll_bound : ℕ → ℕ → ℕ → ℕ → Option Request → ℕ
poll_bound N v n M None = N - v
poll_bound N v n M (Some (Agree k)) = N - v + 5 * n + 4
poll_bound N v n M (Some (Shrink k)) = N - v + 5 * n + 2 * M + 3
poll_bound N v n M (Some (Barrier k)) = N - v + n + 1

-- the same of any call, on a communicator where this request is open; a declaration is no call of a rank
abbrev pub call_bound : {P : Type 0} → ℕ → ℕ → ℕ → ℕ → Option Request → Call P → ℕ
call_bound N v n M request (call.GetFailed rank c) = N - v
call_bound N v n M request (call.FailureGetAcked rank c) = N - v
call_bound N v n M request (call.Ack rank c count) = N - v
call_bound N v n M request (call.FailureAck rank c) = N - v
call_bound N v n M request (call.Free rank c) = N - v
call_bound N v n M request (call.Agree rank c value) = N - v + 2
call_bound N v n M request (call.Shrink rank c) = N - v + 2
call_bound N v n M request (call.Barrier rank c) = N - v + 1
call_bound N v n M request (call.Revoke rank c) = N - v + 1
call_bound N v n M request (call.IsRevoked rank c) = N - v + 1
call_bound N v n M request (call.Poll rank c) = poll_bound N v n M request
call_bound N v n M request (call.Fail rank) = N - v

-- The bound of a call of a rank with this record: no step where the rank was refused for good, and those of a look alone where the record refuses
-- the call.
abbrev pub step_bound : {P : Type 0} → Limits → Record → Call P → ℕ
step_bound limits own asked =
    let x = held_at own (comm_of asked) in
    if own.refused then 0 else (if is_some (refusal_of own asked) then limits.ranks - length own.seen
    else call_bound limits.ranks (length own.seen) (length (group_of x)) limits.comms (request_of x) asked)

-- The second bound of a poll, whose rank has seen f failures more at its end than at its start. Those are the new ones that its look found; and at
-- a shrink's poll, which reads on in the list of failures, one more for each load that it makes there.
abbrev pub also_poll_bound : ℕ → ℕ → ℕ → Option Request → ℕ
also_poll_bound f n M None = f + 1
also_poll_bound f n M (Some (Agree k)) = f + 5
also_poll_bound f n M (Some (Shrink k)) = f + 2 * M + 3
also_poll_bound f n M (Some (Barrier k)) = f + n + 2

-- the second bound of any call, likewise
abbrev pub also_call_bound : {P : Type 0} → ℕ → ℕ → ℕ → Option Request → Call P → ℕ
also_call_bound f n M request (call.GetFailed rank c) = f + 1
also_call_bound f n M request (call.FailureGetAcked rank c) = f + 1
also_call_bound f n M request (call.Ack rank c count) = f + 1
also_call_bound f n M request (call.FailureAck rank c) = f + 1
also_call_bound f n M request (call.Free rank c) = f + 1
also_call_bound f n M request (call.Agree rank c value) = f + 3
also_call_bound f n M request (call.Shrink rank c) = f + 3
also_call_bound f n M request (call.Barrier rank c) = f + 2
also_call_bound f n M request (call.Revoke rank c) = f + 2
also_call_bound f n M request (call.IsRevoked rank c) = f + 2
also_call_bound f n M request (call.Poll rank c) = also_poll_bound f n M request
also_call_bound f n M request (call.Fail rank) = f + 1

-- The second bound of a call of a rank with this record: no step where the rank was refused for good, and those of a look alone where the record
-- refuses the call.
abbrev pub also_bound : {P : Type 0} → Limits → Record → Call P → ℕ → ℕ
also_bound limits own asked f =
    let x = held_at own (comm_of asked) in
    if own.refused then 0 else (if is_some (refusal_of own asked) then f + 1
    else also_call_bound f (length (group_of x)) limits.comms (request_of x) asked)

-- A call makes no more steps than `also_bound` says, where f is how many failures more its rank has seen at the end than at the start, at least 0.
-- The poll of an agree or of a shrink does where all blocks of its round are among those that the pass knew to be set at the end of its look.
abbrev pub AlsoBounded : {P : Type 0} → Limits → Call P → Record → Sight P → Sight P → Record → Sight P → Type 0
AlsoBounded limits asked old before looked new after =
    BlocksStand old asked looked.cached → after.steps ≤ before.steps + also_bound limits old asked (length new.seen - length old.seen)
