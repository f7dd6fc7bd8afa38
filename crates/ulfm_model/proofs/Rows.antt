-- Worked scripts, computed: the replies where nobody else steps.
use Rattle.std.proofs.Common.{◌≡◌, ℕ, zero, suc, ◌+◌, [], ◌∷◌, ◌++◌, true, false, refl}
use Rattle.std.specs.Prelude.{bit_and, List}
use Rattle.ulfm_model.specs.declared.call.Call.{Call}
use Rattle.ulfm_model.specs.declared.call.Call.TheVariants.{Fail, GetFailed, Ack, FailureAck, FailureGetAcked, Agree, Shrink, Barrier, Poll, Revoke, IsRevoked as AskRevoked, Free}
use Rattle.ulfm_model.specs.declared.reply.Reply.{Reply}
use Rattle.ulfm_model.specs.declared.reply.Reply.TheVariants.{Started, Pending, Agreed, Shrunk, Done, FailedGroup, Acked, Declared, AlreadyFailed, Revoked, AlreadyRevoked, Standing, Freed, Refused}
use Rattle.ulfm_model.specs.declared.refusal.Refusal.TheVariants.{NoContext, SelfFailed, NoSuchComm, Busy, ShrinkOpen, RoundsUsedUp, Idle, Mismatch, NoRoom, IsRevoked, ProcFailed, WorldKept, NoSuchRank}
use Rattle.ulfm_model.specs.Runs.{new_state}
use Rattle.ulfm_model.specs.Computed.{replies}

-- the replies of a new world of this size; flags are numbers here, combined bit by bit
abbrev run : ℕ → ℕ → ℕ → List (Call ℕ) → List (Reply ℕ)
run ranks comms rounds calls = replies bit_and (new_state (record { ranks = ranks; comms = comms; rounds = rounds })) calls

-- a rank alone
one_rank : run 1 1 2 (Agree 0 0 0xff ∷ Poll 0 0 ∷ []) ≡ Started ∷ Agreed false 0 0xff ∷ []
one_rank = refl

-- three contribute, and all are told the same
three_flags : run 3 1 4 (Agree 0 0 0xf ∷ Agree 1 0 0x3c ∷ Agree 2 0 0xffff_ffff ∷ Poll 0 0 ∷ Poll 1 0 ∷ Poll 2 0 ∷ [])
    ≡ Started ∷ Started ∷ Started ∷ Agreed false 0 0xc ∷ Agreed false 0 0xc ∷ Agreed false 0 0xc ∷ []
three_flags = refl

-- the last contribution is missing, then comes
pending_then_decided : run 3 1 4 (Agree 0 0 0xf ∷ Agree 1 0 0x3c ∷ Poll 0 0 ∷ Agree 2 0 0x4 ∷ Poll 0 0 ∷ [])
    ≡ Started ∷ Started ∷ Pending ∷ Started ∷ Agreed false 0 0x4 ∷ []
pending_then_decided = refl

-- a failure that nobody has acknowledged raises an error
failed_rank_raises : run 3 1 4 (Fail 2 ∷ Agree 0 0 0xf ∷ Agree 1 0 0x3c ∷ Poll 0 0 ∷ Poll 1 0 ∷ [])
    ≡ Declared ∷ Started ∷ Started ∷ Agreed true 1 0xc ∷ Agreed true 1 0xc ∷ []
failed_rank_raises = refl

-- it raises none where both have acknowledged it
acknowledged_by_all : run 3 1 4 (Fail 2 ∷ Ack 0 0 1 ∷ Ack 1 0 1 ∷ Agree 0 0 0xf ∷ Agree 1 0 0x3c ∷ Poll 0 0 ∷ Poll 1 0 ∷ [])
    ≡ Declared ∷ Acked 1 ∷ Acked 1 ∷ Started ∷ Started ∷ Agreed false 1 0xc ∷ Agreed false 1 0xc ∷ []
acknowledged_by_all = refl

-- it raises one where only one of them has
acknowledged_by_one : run 3 1 4 (Fail 2 ∷ Ack 0 0 1 ∷ Agree 0 0 0xf ∷ Agree 1 0 0x3c ∷ Poll 0 0 ∷ Poll 1 0 ∷ [])
    ≡ Declared ∷ Acked 1 ∷ Started ∷ Started ∷ Agreed true 1 0xc ∷ Agreed true 1 0xc ∷ []
acknowledged_by_one = refl

-- a member is declared after all contributed: its flag counts, and nobody knew of a failure
fails_after_contributing : run 3 1 4 (Agree 0 0 0xf ∷ Agree 1 0 0x3c ∷ Agree 2 0 0x4 ∷ Fail 2 ∷ Poll 0 0 ∷ Poll 1 0 ∷ Poll 2 0 ∷ [])
    ≡ Started ∷ Started ∷ Started ∷ Declared ∷ Agreed false 0 0x4 ∷ Agreed false 0 0x4 ∷ Refused SelfFailed ∷ []
fails_after_contributing = refl

-- the others know of the failure when they contribute: its flag still counts
known_to_the_others : run 3 1 4 (Agree 2 0 0x5 ∷ Fail 2 ∷ Agree 0 0 0xf ∷ Agree 1 0 0x7 ∷ Poll 0 0 ∷ Poll 1 0 ∷ [])
    ≡ Started ∷ Declared ∷ Started ∷ Started ∷ Agreed true 1 0x5 ∷ Agreed true 1 0x5 ∷ []
known_to_the_others = refl

-- a revoked communicator has no barrier, but still agrees and shrinks; what it spawns isn't revoked
agrees_though_revoked : run 2 4 8 (Revoke 1 0 ∷ Revoke 0 0 ∷ Barrier 0 0 ∷ Poll 0 0 ∷ Agree 0 0 0xf ∷ Agree 1 0 0x7 ∷ Poll 0 0 ∷ Poll 1 0 ∷ Shrink 0 0 ∷ Shrink 1 0 ∷ Poll 0 0 ∷ Poll 1 0 ∷ AskRevoked 0 0 ∷ AskRevoked 0 1 ∷ [])
    ≡ Revoked ∷ AlreadyRevoked ∷ Started ∷ Refused IsRevoked ∷ Started ∷ Started ∷ Agreed false 0 0x7 ∷ Agreed false 0 0x7 ∷ Started ∷ Started ∷ Shrunk 1 1 2 ∷ Shrunk 1 1 2 ∷ Standing true ∷ Standing false ∷ []
agrees_though_revoked = refl

-- survivors shrink twice and keep their order
shrinks_keep_order : run 4 4 4 (Fail 1 ∷ Shrink 3 0 ∷ Shrink 0 0 ∷ Shrink 2 0 ∷ Poll 3 0 ∷ Poll 0 0 ∷ Poll 2 0 ∷ Fail 0 ∷ Shrink 3 1 ∷ Shrink 2 1 ∷ Poll 3 1 ∷ Poll 2 1 ∷ [])
    ≡ Declared ∷ Started ∷ Started ∷ Started ∷ Shrunk 1 1 3 ∷ Shrunk 1 1 3 ∷ Shrunk 1 1 3 ∷ Declared ∷ Started ∷ Started ∷ Shrunk 2 2 2 ∷ Shrunk 2 2 2 ∷ []
shrinks_keep_order = refl

-- an id that only one rank gave back isn't free
contexts_come_back_at_all : run 2 4 8 (Shrink 0 0 ∷ Shrink 1 0 ∷ Poll 0 0 ∷ Poll 1 0 ∷ Free 0 1 ∷ Shrink 0 0 ∷ Shrink 1 0 ∷ Poll 0 0 ∷ Poll 1 0 ∷ [])
    ≡ Started ∷ Started ∷ Shrunk 1 1 2 ∷ Shrunk 1 1 2 ∷ Freed ∷ Started ∷ Started ∷ Shrunk 2 2 2 ∷ Shrunk 2 2 2 ∷ []
contexts_come_back_at_all = refl

-- one agrees where the other shrinks; the next round is untouched
agree_meets_shrink : run 2 2 4 (Agree 0 0 0xf ∷ Shrink 1 0 ∷ Poll 0 0 ∷ Poll 1 0 ∷ Agree 0 0 0xf ∷ Agree 1 0 0x3 ∷ Poll 1 0 ∷ [])
    ≡ Started ∷ Started ∷ Refused Mismatch ∷ Refused Mismatch ∷ Started ∷ Started ∷ Agreed false 0 0x3 ∷ []
agree_meets_shrink = refl

-- the last round is kept for a shrink, which finds no room
rounds_and_room_used_up : run 2 1 1 (Agree 0 0 0x1 ∷ Shrink 0 0 ∷ Shrink 1 0 ∷ Poll 0 0 ∷ Poll 1 0 ∷ Shrink 0 0 ∷ [])
    ≡ Refused RoundsUsedUp ∷ Started ∷ Started ∷ Refused NoRoom ∷ Refused NoRoom ∷ Refused RoundsUsedUp ∷ []
rounds_and_room_used_up = refl

-- known failures are counted, and acknowledged ones only grow
acknowledgements_count : run 3 1 2 (GetFailed 0 0 ∷ Fail 1 ∷ Fail 2 ∷ Ack 0 0 0 ∷ Ack 0 0 1 ∷ Ack 0 0 9 ∷ Ack 0 0 1 ∷ GetFailed 0 0 ∷ Fail 1 ∷ Fail 7 ∷ [])
    ≡ FailedGroup 0 ∷ Declared ∷ Declared ∷ Acked 0 ∷ Acked 1 ∷ Acked 2 ∷ Acked 2 ∷ FailedGroup 2 ∷ AlreadyFailed ∷ Refused NoSuchRank ∷ []
acknowledgements_count = refl

-- what is acknowledged after the contribution comes too late for it
acknowledged_too_late : run 2 1 4 (Fail 1 ∷ Agree 0 0 0x1 ∷ Ack 0 0 1 ∷ Poll 0 0 ∷ [])
    ≡ Declared ∷ Started ∷ Acked 1 ∷ Agreed true 1 0x1 ∷ []
acknowledged_too_late = refl

-- a barrier that a declared member has not reached
barrier_and_failure : run 3 1 4 (Barrier 0 0 ∷ Barrier 1 0 ∷ Poll 0 0 ∷ Fail 2 ∷ Poll 0 0 ∷ Poll 0 0 ∷ [])
    ≡ Started ∷ Started ∷ Pending ∷ Declared ∷ Refused ProcFailed ∷ Refused Idle ∷ []
barrier_and_failure = refl

-- a barrier that it had reached
barrier_then_failure : run 2 1 4 (Barrier 0 0 ∷ Barrier 1 0 ∷ Fail 1 ∷ Poll 0 0 ∷ [])
    ≡ Started ∷ Started ∷ Declared ∷ Done ∷ []
barrier_then_failure = refl

-- refusals by the record, in their order
refusals_in_order : run 2 4 8 (Shrink 0 0 ∷ Shrink 0 0 ∷ Poll 0 0 ∷ Poll 1 0 ∷ Shrink 1 0 ∷ Poll 0 0 ∷ Shrink 0 0 ∷ Shrink 0 1 ∷ Agree 0 1 0x1 ∷ Free 0 1 ∷ Free 0 0 ∷ GetFailed 1 1 ∷ [])
    ≡ Started ∷ Refused Busy ∷ Pending ∷ Refused Idle ∷ Started ∷ Shrunk 1 1 2 ∷ Started ∷ Refused ShrinkOpen ∷ Started ∷ Refused Busy ∷ Refused WorldKept ∷ Refused NoSuchComm ∷ []
refusals_in_order = refl

-- rank 0 shrinks the world's communicator n times
abbrev shrinks : ℕ → List (Call ℕ)
shrinks zero = []
shrinks (suc n) = Shrink 0 0 ∷ Poll 0 0 ∷ shrinks n

-- its replies, where it makes communicators 1 up to n
abbrev shrunk : ℕ → List (Reply ℕ)
shrunk zero = []
shrunk (suc n) = shrunk n ++ Started ∷ Shrunk (n + 1) (n + 1) 1 ∷ []

-- all ids are used up, and one is given back
contexts_come_back : run 1 70 70 (shrinks 64 ++ Free 0 7 ∷ shrinks 1)
    ≡ shrunk 63 ++ Started ∷ Refused NoContext ∷ Freed ∷ Started ∷ Shrunk 64 7 1 ∷ []
contexts_come_back = refl
