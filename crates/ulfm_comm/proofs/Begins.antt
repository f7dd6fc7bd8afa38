-- How many steps a call has left as it begins.
use Rattle.std.proofs.Common.{◌≡◌, ℕ, ◌+◌, ◌-◌, ◌<◌, ◌≤◌, Bool, true, false, length, max, nat_lt, Option, Some, None, is_some, if◌then◌else◌, refl, arith}
use Rattle.std.proofs.lemmas.Bool.{ltb-true}
use Rattle.ulfm_model.specs.declared.call.Call.TheVariants as call
use Rattle.ulfm_model.specs.declared.{call.Call.{Call}, call.Request.{Request}, call.Request.TheVariants.{Agree, Shrink, Barrier}}
use Rattle.ulfm_model.specs.{Answers.{refusal_of}, Records.{Record, held_at}, Terms.{comm_of, request_of}}
use Rattle.ulfm_comm.specs.{AlsoLeft.{also_behind_look, also_left, also_polling}, Begins.{loads_again, reads_again}}
use Rattle.ulfm_comm.specs.Bound.{also_bound, also_call_bound, also_poll_bound, call_bound, poll_bound, step_bound}
use Rattle.ulfm_comm.specs.StepsLeft.{behind_look, group_of, polling, steps_left}
use Rattle.ulfm_comm.specs.declared.phases.phase.Phase.TheVariants.{Over, Begun}

module _ {P : Type 0} (own : Record) (asked : Call P) where
  abbrev n : ℕ
  n = length (group_of (held_at own (comm_of asked)))

  abbrev request : Option Request
  request = request_of (held_at own (comm_of asked))

  -- one that is read again, if one is
  abbrev again : ℕ
  again = reads_again own.limits.ranks own.seen

  -- a look makes one load at least, and has as many left as ranks weren't seen, or reads one again
  enough : max 1 (own.limits.ranks - length own.seen) ≤ own.limits.ranks - length own.seen + again
  enough = go (nat_lt (length own.seen) own.limits.ranks) refl
    where
      go : (b : Bool) → nat_lt (length own.seen) own.limits.ranks ≡ b → max 1 (own.limits.ranks - length own.seen) ≤ own.limits.ranks - length own.seen +
          (if b then 0 else 1)
      go true is = omega (arith, ltb-true (length own.seen) own.limits.ranks is)
      go false is = omega arith

  poll_few : (n : ℕ) (request : Option Request) → max 1 (own.limits.ranks - length own.seen) + polling own.limits n request ≤ poll_bound own.limits.ranks
      (length own.seen) n own.limits.comms request + again
  poll_few n None = omega (arith, enough)
  poll_few n (Some (Agree k)) = omega (arith, enough)
  poll_few n (Some (Shrink k)) = omega (arith, enough)
  poll_few n (Some (Barrier k)) = omega (arith, enough)

  call_few : (asked : Call P) → max 1 (own.limits.ranks - length own.seen) + behind_look own.limits own asked
      ≤ call_bound own.limits.ranks (length own.seen) (length (group_of (held_at own (comm_of asked)))) own.limits.comms
      (request_of (held_at own (comm_of asked))) asked + again
  call_few (call.Poll rank c) = poll_few (length (group_of (held_at own c))) (request_of (held_at own c))
  call_few _ = omega (arith, enough)

  few : (b : Bool) → max 1 (own.limits.ranks - length own.seen) + (if b then 0 else behind_look own.limits own asked)
      ≤ (if b then own.limits.ranks - length own.seen else call_bound own.limits.ranks (length own.seen) n own.limits.comms request asked) + again
  few true = omega (arith, enough)
  few false = call_few asked

  -- whatever a call does first
  pub begins_few : steps_left own.limits own asked (if own.refused then Over else Begun) ≤ step_bound own.limits own asked + loads_again own
  begins_few = go own.refused
    where
      go : (b : Bool) → steps_left own.limits own asked (if b then Over else Begun)
          ≤ (if b then 0 else (if is_some (refusal_of own asked) then own.limits.ranks - length own.seen else call_bound own.limits.ranks
          (length own.seen) n own.limits.comms request asked)) + (if b then 0 else again)
      go true = omega arith
      go false = few (is_some (refusal_of own asked))

  module _ (room : 0 < own.limits.comms) where
    also_poll_few : (n : ℕ) (request : Option Request) → again + 1 + also_polling own.limits n request ≤ also_poll_bound 0 n own.limits.comms request + again
    also_poll_few n None = omega arith
    also_poll_few n (Some (Agree k)) = omega arith
    also_poll_few n (Some (Shrink k)) = omega (arith, room)
    also_poll_few n (Some (Barrier k)) = omega arith

    also_call_few : (asked : Call P) → again + 1 + also_behind_look own.limits own asked
        ≤ also_call_bound 0 (length (group_of (held_at own (comm_of asked)))) own.limits.comms (request_of (held_at own (comm_of asked))) asked + again
    also_call_few (call.Poll rank c) = also_poll_few (length (group_of (held_at own c))) (request_of (held_at own c))
    also_call_few _ = omega arith

    also_few : (b : Bool) → again + 1 + (if b then 0 else also_behind_look own.limits own asked)
        ≤ (if b then 1 else also_call_bound 0 n own.limits.comms request asked) + again
    also_few true = omega arith
    also_few false = also_call_few asked

    -- the same beside the failures that are seen
    pub begins_few_also : also_left own.limits own asked (if own.refused then Over else Begun) ≤ also_bound own.limits own asked 0 + loads_again own
    begins_few_also = go own.refused
      where
        go : (b : Bool) → also_left own.limits own asked (if b then Over else Begun)
            ≤ (if b then 0 else (if is_some (refusal_of own asked) then 1 else also_call_bound 0 n own.limits.comms request asked)) + (if b then 0 else again)
        go true = omega arith
        go false = also_few (is_some (refusal_of own asked))
