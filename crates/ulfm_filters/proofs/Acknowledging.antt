-- To acknowledge as many failures as there can be is to acknowledge all.
use Rattle.std.proofs.Common.{◌≡◌, ℕ, ◌≤◌, min, max, Bool, true, false, [], ◌++◌, length, Option, Some, None, refl, sym, ap, subst, ◌∙◌, append-nil, arith}
use Rattle.std.specs.Prelude.{◌↔◌}
use Rattle.ulfm_laws.specs.{declared.flag_and.FlagAnd.{FlagAnd}, Flags.{flag_meld}}
use Rattle.ulfm_model.specs.declared.{call.Call.{Call}, refusal.Refusal.{Refusal}, reply.Reply.{Reply}}
use Rattle.ulfm_model.specs.declared.{call.Call.TheVariants.{Ack, FailureAck}, event.Caller.TheVariants.{Rank}}
use Rattle.ulfm_model.specs.declared.reply.Reply.TheVariants.{Started, Pending, Agreed, Shrunk, Done, FailedGroup, Acked, Declared, AlreadyFailed, Revoked, AlreadyRevoked, Standing, Freed, Refused}
use Rattle.ulfm_model.specs.{Answers.{left_by, most_failures, refusal_of, refusal_on}, History.{History, entries_by, failed, failures, has, members}, Records.{Held, Record, held_at}}
use Rattle.ulfm_model.specs.{Computed.{CallOutcome, Next, next, next_by, next_of_rank, outcome_of, rank_outcome, used_outcome}, Runs.{IsSound, IsStep, State}}
use Rattle.ulfm_model.specs.{Terms.{after_call, record_at}, Words.{MayOpen}}
use Rattle.ulfm_model.proofs.{Marking.{failed_few}, OnlyStep.{step_is_next}, StepsNext.{next_is_step}}

-- a count of at least as many as there can be counts all
counts_all : (most count known : ℕ) → known ≤ most → most ≤ count → min count known ≡ min most known
counts_all most count known few many = omega (arith, few, many)

-- both calls leave the same at the same reply
left_same : (ranks : ℕ) (after : History FlagAnd) (now : Record) (r c count : ℕ) (reply : Reply FlagAnd)
    → left_by ranks after now (Ack r c count) reply ≡ left_by ranks after now (FailureAck r c) reply
left_same ranks after now r c count Started = refl
left_same ranks after now r c count Pending = refl
left_same ranks after now r c count (Agreed raised failed value) = refl
left_same ranks after now r c count (Shrunk comm context size) = refl
left_same ranks after now r c count Done = refl
left_same ranks after now r c count (FailedGroup n) = refl
left_same ranks after now r c count (Acked n) = refl
left_same ranks after now r c count Declared = refl
left_same ranks after now r c count AlreadyFailed = refl
left_same ranks after now r c count Revoked = refl
left_same ranks after now r c count AlreadyRevoked = refl
left_same ranks after now r c count (Standing revoked) = refl
left_same ranks after now r c count Freed = refl
left_same ranks after now r c count (Refused refusal) = refl

module _ (state : State FlagAnd) (sound : IsSound flag_meld state) (wide : MayOpen state.limits) (r c count : ℕ) (many : most_failures ≤ count) where
  few : (h : History FlagAnd) → h ≡ state.history → length (failed state.limits.ranks h c) ≤ most_failures
  few h e =
      let all = failed_few flag_meld state.limits state.history (members state.limits.ranks state.history c) sound.legal in
      let range = wide.in_range.ranks in
      subst (λ w. length (failed state.limits.ranks w c) ≤ most_failures) (sym e) (omega (arith, all, range))

  used_same : (own : Record) (held : Option Held) (refusal : Option Refusal)
      → used_outcome flag_meld state.limits state.history own held refusal (Ack r c count)
      ≡ used_outcome flag_meld state.limits state.history own held refusal (FailureAck r c)
  used_same own held (Some refusal) = refl
  used_same own None None = refl
  used_same own (Some x) None =
      let known = length (failed state.limits.ranks (state.history ++ []) c) in
      ap (λ n. let out : CallOutcome FlagAnd = record { own = []; reply = Acked (max x.acked n) } in out)
      (counts_all most_failures count known (few (state.history ++ []) (append-nil state.history)) many)

  outcome_same : (own : Record)
      → outcome_of flag_meld state.limits state.history own (Ack r c count) ≡ outcome_of flag_meld state.limits state.history own (FailureAck r c)
  outcome_same own = by_failed (has (failures state.history) own.number)
    where
      refused_same : (held : Option Held) → (let one : Call FlagAnd = Ack r c count in refusal_on own held one) ≡ (let other : Call FlagAnd = FailureAck r c in refusal_on own held other)
      refused_same None = refl
      refused_same (Some x) = refl

      by_failed : (b : Bool)
          → rank_outcome flag_meld state.limits state.history own (Ack r c count) b ≡ rank_outcome flag_meld state.limits state.history own (FailureAck r c) b
      by_failed true = refl
      by_failed false =
          let asked : Call FlagAnd = FailureAck r c in
          ap (λ refusal. used_outcome flag_meld state.limits state.history own (held_at own c) refusal (Ack r c count)) (refused_same (held_at own c))
          ∙ used_same own (held_at own c) (refusal_of own asked)

  -- what an outcome makes of the state
  abbrev made : Record → Call FlagAnd → CallOutcome FlagAnd → Next FlagAnd
  made own asked out =
      let after = state.history ++ entries_by (Rank own.number) out.own in
      let left = left_by state.limits.ranks after (record own { seen = failures state.history }) asked out.reply in
      record { reply = out.reply; state = after_call state r after left }

  by_same : (own : Record) (refused : Bool) → next_by flag_meld state r own (Ack r c count) refused ≡ next_by flag_meld state r own (FailureAck r c) refused
  by_same own true = refl
  by_same own false =
      let out = outcome_of flag_meld state.limits state.history own (FailureAck r c) in
      let after = state.history ++ entries_by (Rank own.number) out.own in
      ap (made own (Ack r c count)) (outcome_same own)
      ∙ ap (λ (left : Record). let n : Next FlagAnd = record { reply = out.reply; state = after_call state r after left } in n)
      (left_same state.limits.ranks after (record own { seen = failures state.history }) r c count out.reply)

  next_same : next flag_meld state (Ack r c count) ≡ next flag_meld state (FailureAck r c)
  next_same = by_record (record_at state r)
    where
      by_record : (own : Option Record) → next_of_rank flag_meld state r own (Ack r c count) ≡ next_of_rank flag_meld state r own (FailureAck r c)
      by_record None = refl
      by_record (Some own) = by_same own own.refused

  -- an answer to the one call is one to the other
  pub all_acknowledged : (new : State FlagAnd) (reply : Reply FlagAnd)
      → IsStep flag_meld state (Rank r) (Ack r c count) reply new ↔ IsStep flag_meld state (Rank r) (FailureAck r c) reply new
  all_acknowledged new reply = (to, from)
    where
      is_next : (asked : Call FlagAnd) (n : Next FlagAnd) → IsStep flag_meld state (Rank r) asked n.reply n.state
          → (reply ≡ n.reply) × (new ≡ n.state) → IsStep flag_meld state (Rank r) asked reply new
      is_next asked n step (e, f) =
          subst (λ w. IsStep flag_meld state (Rank r) asked reply w) (sym f) (subst (λ p. IsStep flag_meld state (Rank r) asked p n.state) (sym e) step)

      to : IsStep flag_meld state (Rank r) (Ack r c count) reply new → IsStep flag_meld state (Rank r) (FailureAck r c) reply new
      to step =
          is_next (FailureAck r c) (next flag_meld state (FailureAck r c))
          (next_is_step flag_meld state sound wide.in_range.ranks wide.in_range.some_comms (FailureAck r c))
          (subst (λ (n : Next FlagAnd). (reply ≡ n.reply) × (new ≡ n.state)) next_same (step_is_next flag_meld state sound (Ack r c count) reply new step))

      from : IsStep flag_meld state (Rank r) (FailureAck r c) reply new → IsStep flag_meld state (Rank r) (Ack r c count) reply new
      from step =
          is_next (Ack r c count) (next flag_meld state (Ack r c count))
          (next_is_step flag_meld state sound wide.in_range.ranks wide.in_range.some_comms (Ack r c count))
          (subst (λ (n : Next FlagAnd). (reply ≡ n.reply) × (new ≡ n.state)) (sym next_same) (step_is_next flag_meld state sound (FailureAck r c) reply new step))
