-- The steps of a call, counted.
use Rattle.std.proofs.Common.{◌≡◌, ℕ, ◌+◌, ◌-◌, ◌*◌, ◌%◌, ◌^◌, ◌<◌, ◌≤◌, Bool, true, false, refl, Option, Some, None, is_some, length, min, ap, arith}
use Rattle.std.proofs.Common.{◌⊎◌, [], IsFalse, append-nil, if◌then◌else◌}
use Rattle.ulfm_model.specs.declared.call.Call.TheVariants as call
use Rattle.ulfm_model.specs.declared.{call.Call.{Call}, call.Request.{Request}, call.Request.TheVariants.{Agree, Shrink, Barrier}, limits.Limits.{Limits}}
use Rattle.ulfm_model.specs.declared.reply.Reply.{Reply}
use Rattle.ulfm_model.specs.declared.step_name.StepName.{StepName}
use Rattle.ulfm_model.specs.declared.step_name.StepName.TheVariants as step
use Rattle.ulfm_model.specs.{Answers.{refusal_of}, History.{History, failures}, Records.{Fits, Held, Record, held_at}, Words.{MayOpen}}
use Rattle.ulfm_model.specs.Terms.{comm_of, request_of}
use Rattle.ulfm_model.proofs.RankGroups.{members_few}
use Rattle.ulfm_words.specs.Steps.{IsView, Over, Sight, view_at}
use Rattle.ulfm_comm.specs.{Bound.{call_bound, poll_bound, step_bound}, Calls.{EndsAs, EndsReply, wants_memory}, Counts.{Counted, CountsStep, MakesSteps, named_steps}, Step.{HasReadOn}}
use Rattle.ulfm_comm.specs.{Phase.{next_step}, StepsLeft.{MakesStep, Spends, group_of, steps_left}}
use Rattle.ulfm_comm.specs.declared.{phases.phase.Next.{Next}}
use Rattle.ulfm_comm.proofs.Holding.{group_is}
use Rattle.ulfm_comm.specs.Local.{local}

-- a call that makes no step, by what its rank has seen
pub makes_none : {P : Type 0} {limits : Limits} {asked : Call P} {old new : Record} {now : Sight P}
    → (IsFalse old.refused → (new.seen ≡ failures now.seen) ⊎ HasReadOn old asked (failures now.seen) new.seen now.cached)
    → MakesSteps limits asked old now new now
makes_none {now = now} sees = record {
  looked = now;
  look = record {
    begins = (([], append-nil now.seen), ([], append-nil now.cached), omega arith);
    goes_on = (([], append-nil now.seen), ([], append-nil now.cached), omega arith);
    few = omega arith;
    found = omega arith;
    ends = λ declared. refl;
    sees = sees;
  };
  steps = omega arith;
  also = λ stand. omega arith;
}

-- a step that is named is one
named_is : {P : Type 0} (name : Option StepName) (r c : ℕ) (old new : Sight P) → MakesStep name r c old new
    → new.steps ≡ old.steps + (if is_some name then 1 else 0)
named_is None r c old new made = let same = ap (λ (s : Sight _). s.steps) made in omega (arith, same)
named_is (Some step.List) r c old new made = made.1.steps
named_is (Some step.Settle) r c old new made = made.1.steps
named_is (Some step.Block) r c old new made = made.2.steps
named_is (Some step.Wing) r c old new made = made.3.steps
named_is (Some step.Mark) r c old new made = made.2.steps
named_is (Some step.Slot) r c old new made = made.2.steps
named_is (Some step.Cache) r c old new made = made.2.steps
named_is (Some step.Comm) r c old new made = made.1.steps
named_is (Some step.Spawn) r c old new made = made.1.steps
named_is (Some step.Arrive) r c old new made = made.1.steps
named_is (Some step.Arrival) r c old new made = made.2.steps
named_is (Some step.Revoke) r c old new made = made.steps
named_is (Some step.Revocation) r c old new made = made.steps

-- one step of a call counts where it is named
pub counts_step : {P : Type 0} (limits : Limits) (was : Counted P) (own new : Record) (next : Next P) (made r : ℕ) (now after : Sight P)
    → MakesStep (next_step was.way.phase) r (comm_of was.way.asked) now after → Spends (steps_left limits own was.way.asked was.way.phase) limits new
    was.way.asked next now after
    → made ≡ min (was.made + named_steps was.way.phase) 4294967295 → CountsStep limits was own next made new
counts_step {P} limits was own new next made r now after makes spends is =
    let steps : after.steps ≡ now.steps + named_steps was.way.phase = named_is (next_step was.way.phase) r (comm_of was.way.asked) now after makes in
    record { adds = is; few = omega (arith, is, steps, spends) }

-- a group that is held has no more members than the world has ranks
few_held : {P : Type 0} (meld : P → P → P) (limits : Limits) (h : History P) (own : Record) (c : ℕ) → Fits meld limits h own
    → length (group_of (held_at own c)) ≤ limits.ranks
few_held meld limits h own c fits = go (held_at own c) (λ x is. is)
  where
    go : (x : Option Held) → ((y : Held) → x ≡ Some y → held_at own c ≡ Some y) → length (group_of x) ≤ limits.ranks
    go None is = omega arith
    go (Some x) is = let few = members_few limits.ranks h c in let same = ap length
        (group_is meld limits h own c x fits (is x refl)) in omega (arith, few, same)

poll_most : (N v n M : ℕ) (request : Option Request) → poll_bound N v n M request ≤ N + 5 * n + 2 * M + 4
poll_most N v n M None = omega arith
poll_most N v n M (Some (Agree k)) = omega arith
poll_most N v n M (Some (Shrink k)) = omega arith
poll_most N v n M (Some (Barrier k)) = omega arith

call_most : {P : Type 0} (N v n M : ℕ) (request : Option Request) (asked : Call P) → call_bound N v n M request asked ≤ N + 5 * n + 2 * M + 4
call_most N v n M request (call.Fail rank) = omega arith
call_most N v n M request (call.GetFailed rank c) = omega arith
call_most N v n M request (call.FailureGetAcked rank c) = omega arith
call_most N v n M request (call.Ack rank c count) = omega arith
call_most N v n M request (call.FailureAck rank c) = omega arith
call_most N v n M request (call.Agree rank c value) = omega arith
call_most N v n M request (call.Shrink rank c) = omega arith
call_most N v n M request (call.Barrier rank c) = omega arith
call_most N v n M request (call.Poll rank c) = poll_most N v n M request
call_most N v n M request (call.Revoke rank c) = omega arith
call_most N v n M request (call.IsRevoked rank c) = omega arith
call_most N v n M request (call.Free rank c) = omega arith

-- a call makes fewer than 2 ^ 32 steps
pub bound_small : {P : Type 0} (meld : P → P → P) (limits : Limits) (h : History P) (own : Record) (asked : Call P) → MayOpen limits → Fits meld limits h own
    → step_bound limits own asked < 4294967296
bound_small {P} meld limits h own asked may fits = go own.refused (is_some (refusal_of own asked))
  where
    n : ℕ
    n = length (group_of (held_at own (comm_of asked)))

    few : n ≤ limits.ranks
    few = few_held meld limits h own (comm_of asked) fits

    most : call_bound limits.ranks (length own.seen) n limits.comms (request_of (held_at own (comm_of asked))) asked ≤ limits.ranks + 5 * n + 2 * limits.comms +
        4
    most = call_most limits.ranks (length own.seen) n limits.comms (request_of (held_at own (comm_of asked))) asked

    go : (a b : Bool) → (if a then 0 else (if b then limits.ranks - length own.seen else call_bound limits.ranks (length own.seen) n limits.comms
        (request_of (held_at own (comm_of asked))) asked)) < 4294967296
    go true b = omega arith
    go false true = omega (arith, may.in_range.ranks)
    go false false = omega (arith, may.in_range.ranks, may.in_range.comms, few, most)

-- a call's steps are counted onward
ends_onward : {P : Type 0} (meld : P → P → P) (alone : Bool) (name : Over P) (asked : Call P) (old : Record) (before : Sight P) (reply : Reply P) (new : Record)
    (after : Sight P)
    → EndsReply meld alone asked (local old (view_at name before)) reply (local new (view_at name after)) → before.steps ≤ after.steps
ends_onward {P} meld alone name asked old before reply new after ends = go (wants_memory reply) ends
  where
    go : (b : Bool) → EndsAs meld alone asked (local old (view_at name before)) reply b (local new (view_at name after)) → before.steps ≤ after.steps
    go true ended = ended.0.ran_out.onward
    go false called = called.linearizes.onward

-- The difference of two counts modulo 2 ^ 64 is the number of a call's steps.
module _ {P : Type 0} (meld : P → P → P) (alone : Bool) (name : Over P) (asked : Call P) (old : Record) (before : Sight P) (reply : Reply P) (new : Record)
    (after : Sight P)
    (of : IsView meld (view_at name before)) (fits : Fits meld name.limits before.seen old) (ends : EndsReply meld alone asked (local old (view_at name before)) reply (local new (view_at name after)))
    (steps : after.steps ≤ before.steps + step_bound name.limits old asked) (first last made : ℕ) (first_is : first ≡ before.steps % 2 ^ 64)
    (last_is : last ≡ after.steps % 2 ^ 64)
    (made_is : made ≡ (last + (2 ^ 64 - first)) % 2 ^ 64) where
  onward : before.steps ≤ after.steps
  onward = ends_onward meld alone name asked old before reply new after ends

  small : step_bound name.limits old asked < 4294967296
  small = bound_small meld name.limits before.seen old asked of.may_open fits

  pub made_small : made < 2 ^ 32
  made_small = omega (arith, onward, steps, small, first_is, last_is, made_is)

  pub made_exact : after.steps ≡ before.steps + made
  made_exact = omega (arith, onward, steps, small, first_is, last_is, made_is)
