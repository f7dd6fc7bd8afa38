-- What is computed for any call of a rank is an answer.
use Rattle.std.proofs.Common.{◌≡◌, ℕ, ◌+◌, ◌<◌, ◌≤◌, Bool, true, false, not, [], ◌∷◌, Option, Some, None, is_some, refl, ap, sym, ◌∙◌, subst, arith, append-nil, inl, inr}
use Rattle.std.specs.Prelude.{nat_le}
use Rattle.std.specs.List.{list_any}
use Rattle.std.proofs.lemmas.Bool.Decides.{nat_tests}
use Rattle.ulfm_model.specs.declared.call.Call.{Call}
use Rattle.ulfm_model.specs.declared.call.Call.TheVariants as call
use Rattle.ulfm_model.specs.declared.call.Request.{Request}
use Rattle.ulfm_model.specs.declared.reply.Reply.TheVariants.{Refused}
use Rattle.ulfm_model.specs.declared.refusal.Refusal.{Refusal}
use Rattle.ulfm_model.specs.declared.refusal.Refusal.TheVariants.{Busy, Idle, RoundsUsedUp, ShrinkOpen}
use Rattle.ulfm_model.specs.declared.limits.Limits.{Limits}
use Rattle.ulfm_model.specs.declared.event.Caller.TheVariants.{Rank}
use Rattle.ulfm_model.specs.History.{History, failures, has}
use Rattle.ulfm_model.specs.{Answers.{RepliesBy, first_refusal, polled_by, refusal_of, refusal_on, traits_of}, History.{IsLegal}, Records.{Fits, Held, Record, held_at, is_shrink}, Runs.{unsettled_of}}
use Rattle.ulfm_model.specs.Computed.{held_outcome, outcome_of, rank_outcome, used_outcome}
use Rattle.ulfm_model.specs.Terms.{comm_of, contexts_of, request_of, tests_of}
use Rattle.ulfm_model.specs.Answers.{Replies}
use Rattle.ulfm_model.proofs.Allowed.{none_first_test}
use Rattle.ulfm_model.proofs.StepsAlone.{IsGood, view_with}
use Rattle.ulfm_model.proofs.StepsPlain.{ack_good, failure_ack_good, free_good, get_acked_good, get_good, holds, revoke_good, standing_good}
use Rattle.ulfm_model.proofs.StepsPolls.{poll_good}
use Rattle.ulfm_model.proofs.StepsStarts.{agree_good, barrier_good, shrink_good}

module _ {P : Type 0} (meld : P → P → P) (limits : Limits) (h : History P) (legal : IsLegal meld limits h) (small : limits.ranks ≤ 1024) (some : 0 < limits.comms) (own : Record) (fits : Fits meld limits h own) where
  below_rounds : (n : ℕ) → nat_le own.limits.rounds n ≡ false → n < limits.rounds
  below_rounds n above = subst (λ (l : Limits). n < l.rounds) fits.same_limits (below own.limits.rounds n above)
    where
      below : (a b : ℕ) → nat_le a b ≡ false → b < a
      below a b e = grind (arith, nat_tests)

  -- a call that the record doesn't refuse, of a rank that isn't declared
  held_good : has (failures h) own.number ≡ false → (asked : Call P) (rank : ℕ) → (traits_of asked).by ≡ Rank rank → (x : Held) → held_at own (comm_of asked) ≡ Some x → refusal_of own asked ≡ None
      → first_refusal (tests_of own x asked) ≡ None → IsGood meld limits h own asked (held_outcome meld limits h own x asked)
  held_good alive (call.Fail r) rank by_rank x at passed tests = absurd (cc by_rank)
  held_good alive (call.GetFailed r c) rank by_rank x at passed tests = get_good meld limits h own alive x r c at passed
  held_good alive (call.FailureGetAcked r c) rank by_rank x at passed tests = get_acked_good meld limits h own alive x r c at passed
  held_good alive (call.Ack r c count) rank by_rank x at passed tests = ack_good meld limits h own alive x r c count at passed
  held_good alive (call.FailureAck r c) rank by_rank x at passed tests = failure_ack_good meld limits h own alive x r c at passed
  held_good alive (call.Agree r c value) rank by_rank x at passed tests =
      let first = none_first_test (is_some x.request, Busy) ((nat_le own.limits.rounds (x.next_agreement + 1), RoundsUsedUp) ∷ []) tests in
      let second = none_first_test (nat_le own.limits.rounds (x.next_agreement + 1), RoundsUsedUp) [] first.1 in
      let round : x.next_agreement < limits.rounds = omega (arith, below_rounds (x.next_agreement + 1) second.0) in
      agree_good meld limits h legal own alive (contexts_of own.held) x (holds meld limits h own fits c x at).0 r c value at passed small round
  held_good alive (call.Shrink r c) rank by_rank x at passed tests =
      let first = none_first_test (is_some x.request, Busy) ((list_any (λ y. is_shrink y.request) own.held, ShrinkOpen) ∷ (nat_le own.limits.rounds x.next_agreement, RoundsUsedUp) ∷ []) tests in
      let second = none_first_test (list_any (λ y. is_shrink y.request) own.held, ShrinkOpen) ((nat_le own.limits.rounds x.next_agreement, RoundsUsedUp) ∷ []) first.1 in
      let third = none_first_test (nat_le own.limits.rounds x.next_agreement, RoundsUsedUp) [] second.1 in
      shrink_good meld limits h legal own alive (contexts_of own.held) x (holds meld limits h own fits c x at).0 r c at passed small (below_rounds x.next_agreement third.0)
  held_good alive (call.Barrier r c) rank by_rank x at passed tests =
      let first = none_first_test (is_some x.request, Busy) ((nat_le own.limits.rounds x.next_barrier, RoundsUsedUp) ∷ []) tests in
      let second = none_first_test (nat_le own.limits.rounds x.next_barrier, RoundsUsedUp) [] first.1 in
      barrier_good meld limits h legal own alive (contexts_of own.held) x (holds meld limits h own fits c x at).0 r c at passed (below_rounds x.next_barrier second.0)
  held_good alive (call.Poll r c) rank by_rank x at passed tests =
      let held = holds meld limits h own fits c x at in poll_good meld limits h legal own alive small some (contexts_of own.held) x held.0 r c at passed held.1
  held_good alive (call.Revoke r c) rank by_rank x at passed tests =
      let held = holds meld limits h own fits c x at in revoke_good meld limits h own alive x r c at passed held.0.exists held.1
  held_good alive (call.IsRevoked r c) rank by_rank x at passed tests = standing_good meld limits h own alive x r c at passed
  held_good alive (call.Free r c) rank by_rank x at passed tests = free_good meld limits h own alive x r c at passed

  -- a poll that the record refuses has nobody to mark
  none_to_mark : (rank c : ℕ) (held : Option Held) (refusal : Refusal) → refusal_on {P = P} own held (call.Poll rank c) ≡ Some refusal → [] ≡ unsettled_of limits.ranks h c (request_of held)
  none_to_mark rank c None refusal is = refl
  none_to_mark rank c (Some x) refusal is = by_request x.request is
    where
      by_request : (q : Option Request) → first_refusal ((not (is_some q), Idle) ∷ []) ≡ Some refusal → [] ≡ unsettled_of limits.ranks h c q
      by_request None e = refl
      by_request (Some q) e = absurd (cc e)

  refused_marks : (asked : Call P) (refusal : Refusal) → refusal_of own asked ≡ Some refusal → [] ≡ unsettled_of limits.ranks h (comm_of asked) (polled_by own asked)
  refused_marks (call.Poll rank c) refusal is = none_to_mark rank c (held_at own c) refusal is
  refused_marks _ refusal is = refl

  -- what is computed for a call of a rank that wasn't refused for good
  pub outcome_good : (asked : Call P) (rank : ℕ) → (traits_of asked).by ≡ Rank rank → IsGood meld limits h own asked (outcome_of meld limits h own asked)
  outcome_good asked rank by_rank = by_declared (has (failures h) own.number) refl
    where
      by_record : has (failures h) own.number ≡ false → (held : Option Held) → held_at own (comm_of asked) ≡ held → (refusal : Option Refusal) → refusal_of own asked ≡ refusal
          → IsGood meld limits h own asked (used_outcome meld limits h own held refusal asked)
      by_record alive held at (Some refusal) is = record {
        legal_after = tt;
        owns = tt;
        replies = inr (record { not_declared = alive; replies = subst (RepliesBy (λ x. Replies meld limits (view_with meld limits h own []) own x asked (Refused refusal)) (Refused refusal) (held_at own (comm_of asked))) (sym is) refl });
        marks = λ polls not_declared. refused_marks asked refusal is;
      }
      by_record alive (Some x) at None is = held_good alive asked rank by_rank x at is (sym (ap (λ held. refusal_on own held asked) at) ∙ is)
      by_record alive None at None is = absurd (cc (sym (ap (λ held. refusal_on own held asked) at) ∙ is))

      by_declared : (d : Bool) → has (failures h) own.number ≡ d → IsGood meld limits h own asked (rank_outcome meld limits h own asked d)
      by_declared true declared = record {
        legal_after = tt;
        owns = tt;
        replies = inl (record { reply_is = refl; declared = ap (λ w. has (failures w) own.number) (append-nil h) ∙ declared; adds_nothing = λ x starts. refl });
        marks = λ polls alive. absurd (cc (alive, declared));
      }
      by_declared false alive = by_record alive (held_at own (comm_of asked)) refl (refusal_of own asked) refl
