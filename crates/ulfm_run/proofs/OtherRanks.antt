-- A call of a rank among all ranks, any but a query of the failed group.
use Rattle.std.proofs.Common.{◌≡◌, ℕ, ◌<◌, Bool, false, List, get_or, set, length, refl, ap, sym, ◌∙◌, subst, inl, inr, IsTrue, Some}
use mathlib.Core.List.{IsPrefix}
use Rattle.ulfm_model.specs.declared.call.Call.TheVariants as call
use Rattle.ulfm_model.specs.declared.{call.Call.{Call}, event.Caller.TheVariants.{Rank}, refusal.Refusal.{Refusal}, reply.Reply.{Reply}}
use Rattle.ulfm_model.specs.declared.reply.Reply.TheVariants.{Shrunk, FailedGroup, Refused}
use Rattle.ulfm_model.specs.declared.refusal.Refusal.TheVariants.{SelfFailed, OutOfMemory}
use Rattle.ulfm_model.specs.{Answers.{rank_of, traits_of}, Records.{Held, Record, held_at}, Runs.{IsCall, State}}
use Rattle.ulfm_model.specs.Terms.{comm_of, rests_on}
use Rattle.ulfm_model.specs.Records.{moment}
use Rattle.ulfm_words.specs.Steps.{Over, Sight, view_at}
use Rattle.ulfm_comm.specs.{Calls.{Calls, EndsAs, EndsReply, wants_memory}, Counts.{Ranked, records_of}}
use Rattle.ulfm_run.specs.Jobs.{crew, IsAbout, IsJob, IsOther, KeepsRecords, PollsShrink, StepsBy, state_seen}
use Rattle.ulfm_comm.proofs.{CallRuns.{called_run}, ReplyKinds.{IsKind, answered_on, replies_kind}}
use Rattle.ulfm_comm.specs.Local.{local}
use Rattle.ulfm_run.proofs.Jobs.{ranked_begins, ranked_fits, ranked_job, ranked_number, ranked_step}
use Rattle.ulfm_run.proofs.{Lacking.{keeps_set, polls_shrink}, MadeFew.{IsOfFew, made_few}, ShrinkHolds.{has_members}}

-- a reply that doesn't say that memory ran out
kept_memory : {P : Type 0} (reply : Reply P) → (reply ≡ Refused OutOfMemory → ⊥) → wants_memory reply ≡ false
kept_memory (Refused OutOfMemory) other = absurd (other refl)
kept_memory _ other = refl

module _ {P : Type 0} where
  -- it is a rank's
  pub by_rank : (asked : Call P) → IsOther asked → (traits_of asked).by ≡ Rank (rank_of asked)
  by_rank (call.Fail rank) other = absurd other
  by_rank (call.GetFailed rank c) other = absurd other
  by_rank (call.FailureGetAcked rank c) other = absurd other
  by_rank _ other = refl

  -- neither a declaration nor a query of the failed group
  pub is_other : (asked : Call P) → ((rank : ℕ) → asked ≡ call.Fail rank → ⊥) → ((rank c : ℕ) → asked ≡ call.GetFailed rank c → ⊥)
      → ((rank c : ℕ) → asked ≡ call.FailureGetAcked rank c → ⊥) → IsOther asked
  is_other (call.Fail rank) declares queries lists = absurd (declares rank refl)
  is_other (call.GetFailed rank c) declares queries lists = absurd (queries rank c refl)
  is_other (call.FailureGetAcked rank c) declares queries lists = absurd (lists rank c refl)
  is_other _ declares queries lists = tt

  -- what polls is a poll
  pub asks_poll : (asked : Call P) → IsTrue (traits_of asked).polls → (rank : ℕ) × (c : ℕ) × (asked ≡ call.Poll rank c)
  asks_poll (call.Poll rank c) polls = (rank, c, refl)
  asks_poll _ polls = absurd (cc polls)

  -- only a poll makes a communicator
  shrunk_polls : (asked : Call P) (j context size : ℕ) → IsOther asked → IsKind asked (Shrunk j context size)
      → (rank : ℕ) × (c : ℕ) × (asked ≡ call.Poll rank c)
  shrunk_polls (call.Fail rank) j context size other kind = absurd other
  shrunk_polls (call.GetFailed rank c) j context size other kind = absurd other
  shrunk_polls (call.FailureGetAcked rank c) j context size other kind = absurd other
  shrunk_polls (call.Poll rank c) j context size other kind = (rank, c, refl)
  shrunk_polls _ j context size other kind = absurd kind

  -- and none of them counts failures
  counts_none : (asked : Call P) (count : ℕ) → IsOther asked → IsKind asked (FailedGroup count) → ⊥
  counts_none (call.Fail rank) count other kind = other
  counts_none (call.GetFailed rank c) count other kind = other
  counts_none (call.FailureGetAcked rank c) count other kind = other
  counts_none _ count other kind = kind

  -- a reply about no group
  about_none : (state : State P) (c : ℕ) (group : List ℕ) (reply : Reply P) → ((j context size : ℕ) → reply ≡ Shrunk j context size → ⊥)
      → ((count : ℕ) → reply ≡ FailedGroup count → ⊥) → IsAbout state c group group reply
  about_none state c group (Shrunk j context size) made counted = absurd (made j context size refl)
  about_none state c group (FailedGroup count) made counted = absurd (counted count refl)
  about_none state c group _ made counted = refl

module _ {P : Type 0} (meld : P → P → P) (alone : Bool) (name : Over P) (before : Sight P) (ranks : List Ranked) (job : IsJob meld alone (view_at name before) (records_of ranks))
    (asked : Call P) (other : IsOther asked) (i : ℕ) (d : Ranked) (is_rank : i ≡ rank_of asked) (below : i < length ranks) where
  abbrev own : Record
  own = (get_or ranks i d).own

  by_it : (traits_of asked).by ≡ Rank i
  by_it = by_rank asked other ∙ ap Rank (sym is_rank)

  -- the rank that stands at its number makes it
  pub mine : (traits_of asked).by ≡ Rank own.number
  mine = by_it ∙ ap Rank (sym (ranked_number meld alone name before ranks job i d below))

  module _ (left : Ranked) (after : Sight P) (reply : Reply P) (ends : EndsReply meld alone asked (local own (view_at name before)) reply (local left.own (view_at name after))) where
    abbrev new : Record
    new = left.own

    -- it ran out of memory
    module _ (out : reply ≡ Refused OutOfMemory) where
      ended : EndsReply meld alone asked (local own (view_at name before)) (Refused OutOfMemory) (local new (view_at name after))
      ended = subst (λ r. EndsReply meld alone asked (local own (view_at name before)) r (local new (view_at name after))) out ends

      pub other_begins : IsPrefix before.seen after.seen
      other_begins = ranked_begins meld alone name before ranks job i d below left after asked ended.0

      pub other_job : IsJob meld alone (view_at name after) (records_of (set ranks i left))
      other_job = ranked_job meld alone name before ranks job i d below left after asked ended.0

      pub out_polls : PollsShrink (records_of ranks) (rank_of asked) asked
      out_polls = polls_shrink meld alone name before ranks job asked i d is_rank below ended.1

      -- of its record only what it has seen is new
      pub other_keeps : KeepsRecords (records_of ranks) (records_of (set ranks i left))
      other_keeps = keeps_set ranks i d left ended.0.ran_out.run_out.record_is

    module _ (kept : reply ≡ Refused OutOfMemory → ⊥) where
      -- it is a call of the sequential object
      pub other_calls : Calls meld alone asked (local own (view_at name before)) reply (local new (view_at name after))
      other_calls = subst (λ b. EndsAs meld alone asked (local own (view_at name before)) reply b (local new (view_at name after))) (kept_memory reply kept) ends

      pub other_step : StepsBy meld alone asked (crew (view_at name before) (records_of ranks)) reply (crew (view_at name after) (records_of (set ranks i left)))
      other_step = ranked_step meld alone name before ranks job i d below left after (λ _. asked) reply by_it other_calls

      -- and its reply is of its kind
      other_kind : ((refusal : Refusal) → reply ≡ Refused refusal → ⊥) → IsKind asked reply
      other_kind answers = by_run (called_run meld alone name asked own before reply new after other_calls)
        where
          by_run : IsCall meld name.limits alone (moment own before.seen) asked reply (moment new after.seen) → IsKind asked reply
          by_run (inl refused) = absurd (answers SelfFailed refused.2)
          by_run (inr run) =
              let on = answered_on meld name.limits alone before.seen after.seen own asked reply new run answers in
              replies_kind meld name.limits (rests_on run.span) own on.x reply asked on.replies

      module _ (j context size : ℕ) (is : reply ≡ Shrunk j context size) where
        polled : (rank : ℕ) × (c : ℕ) × (asked ≡ call.Poll rank c)
        polled = shrunk_polls asked j context size other (subst (IsKind asked) is (other_kind (λ refusal refused. cc (is, refused))))

        pub other_polls : IsTrue (traits_of asked).polls
        other_polls = subst (λ a. IsTrue (traits_of a).polls) (sym polled.2) refl

        poll_is : asked ≡ call.Poll own.number polled.1
        poll_is =
            let number : polled.0 ≡ own.number = cc (subst (λ a. (traits_of a).by ≡ Rank own.number) polled.2 mine) in polled.2
            ∙ ap (λ r. call.Poll r polled.1) number

        poll_made : Calls meld alone (call.Poll own.number polled.1) (local own (view_at name before)) (Shrunk j context size) (local new (view_at name after))
        poll_made = subst (λ r. Calls meld alone (call.Poll own.number polled.1) (local own (view_at name before)) r (local new (view_at name after))) is
            (subst (λ a. Calls meld alone a (local own (view_at name before)) reply (local new (view_at name after))) poll_is other_calls)

        -- what the rank holds of the new communicator are its members
        pub other_made : (c : ℕ) (before_it group : List ℕ) → ((x : Held) → held_at new j ≡ Some x → group ≡ x.group)
            → IsAbout (state_seen (view_at name after) (records_of (set ranks i left))) c before_it group reply
        other_made c before_it group has = subst (IsAbout (state_seen (view_at name after) (records_of (set ranks i left))) c before_it group) (sym is)
            (has_members meld alone name polled.1 own before j context size new after poll_made group has)

        -- they are no more than those of its parent
        pub other_few : (y : Held) → held_at new j ≡ Some y → IsOfFew own (comm_of asked) y
        other_few y holds =
            subst (λ a. IsOfFew own (comm_of a) y) (sym poll_is) (made_few meld alone name polled.1 own before j context size new after poll_made
            (ranked_fits meld alone name before ranks job i d below) y holds)

      pub other_about : (c : ℕ) (group : List ℕ) → ((j context size : ℕ) → reply ≡ Shrunk j context size → ⊥)
          → ((refusal : Refusal) → reply ≡ Refused refusal → ⊥) → IsAbout (state_seen (view_at name after) (records_of (set ranks i left))) c group group reply
      other_about c group made answers = about_none (state_seen (view_at name after) (records_of (set ranks i left))) c group reply made
          (λ count is. counts_none asked count other (subst (IsKind asked) is (other_kind answers)))
