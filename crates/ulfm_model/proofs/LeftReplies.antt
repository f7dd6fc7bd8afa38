-- What each reply leaves of a record fits the history at the end of the call.
use Rattle.std.proofs.Common.{◌≡◌, ◌⊎◌, ℕ, ◌<◌, ◌==◌, min, max, Bool, true, false, cond, not, List, [], ◌∷◌, ◌++◌, length, Option, Some, None, is_some, refl, ap, sym, subst, arith, filter, inl, inr, nat_le}
use Rattle.std.proofs.Common.{take}
use Rattle.ulfm_model.specs.Answers.{most_failures}
use Rattle.ulfm_laws.specs.Ranges.{payload_bits}
use Rattle.std.specs.List.{list_any, list_all, AllByRecursion}
use mathlib.Core.List.{IsPrefix}
use Rattle.ulfm_model.specs.declared.{call.Call.{Call}, call.Request.{Request}, call.Request.TheVariants.{Agree, Shrink, Barrier}, contribution.Offer.TheVariants.{Flag, Ctx}, event.Event.{Event}, event.Event.TheVariants.{Arrive, Settle}, limits.Limits.{Limits}, refusal.Refusal.{Refusal}, refusal.Refusal.TheVariants.{Busy, IsRevoked, Mismatch, NoContext, NoRoom, NoSuchComm, ProcFailed, RoundsUsedUp, SelfFailed, ShrinkOpen, Twice}, reply.Reply.{Reply}, reply.Reply.TheVariants.{Started, Pending, Agreed, Shrunk, Done, FailedGroup, Acked, Revoked, AlreadyRevoked, Standing, Freed, Refused}}
use Rattle.ulfm_model.specs.declared.call.Call.TheVariants as call
use Rattle.ulfm_model.specs.{Answers.{BarrierStartReplies, IsReply, IsSelfFailed, PollReplies, Replies, RepliesBy, StartReplies, AtPoint, barrier_reply, closed, first_refusal, left_by, opened, printed, refusal_of, refusal_on, left_with}, Answers.Effect.{Keeps}, History.{Exists, History, IsLegal, decision, failed, failures, has, has_arrived, is_revoked, members}, Records.{Fits, FitsHeld, Held, Record, free_ids, held_at, is_shrink}}
use Rattle.ulfm_model.specs.Terms.{IsOwn, comm_of, contexts_of, new_held, tests_of}
use Rattle.ulfm_model.proofs.Lists.{each_from, has_prefix, length_prefix}
use Rattle.ulfm_model.proofs.Histories.{failures_begin}
use Rattle.ulfm_model.proofs.Stable.{failed_begins}
use Rattle.ulfm_model.proofs.LeftHeld.{shrinks_change, shrinks_opened}
use Rattle.ulfm_model.proofs.Contexts.{context_below}
use Rattle.ulfm_model.proofs.LeftIds.{held_not_free}
use Rattle.ulfm_model.proofs.LeftFits.{fits_acked, fits_closed, fits_kept, fits_opened, fits_refused, held_fits}
use Rattle.ulfm_model.proofs.LeftShrunk.{fits_shrunk, found_stays}

-- where no test holds, the first doesn't, and none of the others
none_holds : (test : Bool × Refusal) (tests : List (Bool × Refusal)) → first_refusal (test ∷ tests) ≡ None → (test.0 ≡ false) × (first_refusal tests ≡ None)
none_holds (true, refusal) tests e = absurd (cc e)
none_holds (false, refusal) tests e = (refl, e)

-- the test's refusal leaves the record as it is
abbrev KeepsRecord : Bool × Refusal → Type 0
KeepsRecord test = (printed test.1).2 ≡ Keeps

first_keeps : (tests : List (Bool × Refusal)) (refusal : Refusal) → AllByRecursion KeepsRecord tests → first_refusal tests ≡ Some refusal → (printed refusal).2 ≡ Keeps
first_keeps [] refusal all e = absurd (cc e)
first_keeps ((true, first) ∷ tests) refusal all e = let same : first ≡ refusal = cc e in subst (λ w. (printed w).2 ≡ Keeps) same all.0
first_keeps ((false, first) ∷ tests) refusal all e = first_keeps tests refusal all.1 e

module _ {P : Type 0} where
  -- each refusal by the record does so
  tests_keep : (old : Record) (x : Held) (asked : Call P) → AllByRecursion KeepsRecord (tests_of old x asked)
  tests_keep old x (call.Fail rank) = tt
  tests_keep old x (call.GetFailed rank c) = tt
  tests_keep old x (call.FailureGetAcked rank c) = tt
  tests_keep old x (call.Ack rank c count) = tt
  tests_keep old x (call.FailureAck rank c) = tt
  tests_keep old x (call.Agree rank c value) = (refl, (refl, tt))
  tests_keep old x (call.Shrink rank c) = (refl, (refl, (refl, tt)))
  tests_keep old x (call.Barrier rank c) = (refl, (refl, tt))
  tests_keep old x (call.Poll rank c) = (refl, tt)
  tests_keep old x (call.Revoke rank c) = tt
  tests_keep old x (call.IsRevoked rank c) = tt
  tests_keep old x (call.Free rank c) = (refl, (refl, tt))

  refusal_keeps : (old : Record) (held : Option Held) (asked : Call P) (refusal : Refusal) → refusal_on old held asked ≡ Some refusal → (printed refusal).2 ≡ Keeps
  refusal_keeps old None asked refusal e = let same : NoSuchComm ≡ refusal = cc e in subst (λ w. (printed w).2 ≡ Keeps) same refl
  refusal_keeps old (Some x) asked refusal e = first_keeps (tests_of old x asked) refusal (tests_keep old x asked) e

-- a call's view of what happened up to its point, and how the record fits at the call's end
module _ {P : Type 0} (meld : P → P → P) (limits : Limits) (view : AtPoint P) (after : History P) (point_ends : IsPrefix view.history after) (legal : IsLegal meld limits after) where
  abbrev FitsAfter : Record → Type 0
  FitsAfter own = Fits meld limits after own

  module _ (old : Record) (seen : List ℕ) (fits : FitsAfter (record old { seen = seen })) (own : (event : Event P) → view.own ≡ event ∷ [] → IsOwn after old.number event) where
    -- the record before the call, with the failures that it has seen after it
    abbrev now : Record
    now = record old { seen = seen }

    -- what a reply leaves of it fits
    abbrev Leaves : Call P → Reply P → Type 0
    Leaves asked reply = FitsAfter (left_by limits.ranks view.history now asked reply)

    by_reply : (asked : Call P) (reply known : Reply P) → reply ≡ known → Leaves asked known → Leaves asked reply
    by_reply asked reply known is left = subst (Leaves asked) (sym is) left

    -- an agree is started
    agree_left : (rank c : ℕ) (value : P) (x : Held) (reply : Reply P) → held_at now c ≡ Some x → StartReplies view old x (Flag value) reply → Leaves (call.Agree rank c value) reply
    agree_left rank c value x reply at (inl (is, gives)) =
        let one = fits.one_shrink in
        by_reply (call.Agree rank c value) reply Started is
        (fits_opened meld limits after now c (λ y. Some (Agree y.next_agreement)) x fits at (gives.given, value, own (Settle x.comm x.next_agreement now.number gives.given) gives.own, gives.offer_is)
        (omega (arith, one, shrinks_change c (λ y. opened y (Some (Agree y.next_agreement))) (λ y e. absurd (cc e)) now.held)))
    agree_left rank c value x reply at (inr twice) = by_reply (call.Agree rank c value) reply (Refused Twice) twice.0 fits

    -- a shrink is started: it offers no id that the rank holds
    shrink_left : (rank c : ℕ) (x : Held) (reply : Reply P) → held_at now c ≡ Some x → list_any (λ y. is_shrink y.request) now.held ≡ false → StartReplies view old x (Ctx (free_ids now.held)) reply → Leaves (call.Shrink rank c) reply
    shrink_left rank c x reply at none (inl (is, gives)) =
        let small = each_from (FitsHeld meld limits.ranks after now.number (contexts_of now.held)) (λ y. y.context < payload_bits) (λ y held. context_below meld limits.ranks after y.comm y.context held.context) now.held fits.held in
        by_reply (call.Shrink rank c) reply Started is
        (fits_opened meld limits after now c (λ y. Some (Shrink y.next_agreement)) x fits at
        (gives.given, free_ids now.held, own (Settle x.comm x.next_agreement now.number gives.given) gives.own, gives.offer_is, held_not_free now.held small)
        (shrinks_opened c (λ y. opened y (Some (Shrink y.next_agreement))) now.held none))
    shrink_left rank c x reply at none (inr twice) = by_reply (call.Shrink rank c) reply (Refused Twice) twice.0 fits

    -- a barrier is started
    barrier_left : (rank c : ℕ) (x : Held) (reply : Reply P) → held_at now c ≡ Some x → BarrierStartReplies view old x reply → Leaves (call.Barrier rank c) reply
    barrier_left rank c x reply at (arrived, inl (is, stands)) =
        let one = fits.one_shrink in
        by_reply (call.Barrier rank c) reply Started is
        (fits_opened meld limits after now c (λ y. Some (Barrier y.next_barrier)) x fits at (own (Arrive x.comm x.next_barrier now.number) stands)
        (omega (arith, one, shrinks_change c (λ y. opened y (Some (Barrier y.next_barrier))) (λ y e. absurd (cc e)) now.held)))
    barrier_left rank c x reply at (arrived, inr twice) = by_reply (call.Barrier rank c) reply (Refused Twice) twice.0 fits

    -- failures are acknowledged, no more than there are at the point
    ack_left : (rank c count : ℕ) (x : Held) (reply : Reply P) → held_at now c ≡ Some x → Exists view.history c → reply ≡ Acked (max x.acked (min count (length (failed limits.ranks view.history c)))) → Leaves (call.Ack rank c count) reply
    ack_left rank c count x reply at here is =
        let both = held_fits meld limits after now c x fits at in
        let was = both.0.acked in
        let same : length (failed limits.ranks after x.comm) ≡ length (failed limits.ranks after c) = ap (λ w. length (failed limits.ranks after w)) both.1 in
        let more = length_prefix (failed limits.ranks view.history c) (failed limits.ranks after c) (failed_begins meld limits view.history after c point_ends legal here) in
        by_reply (call.Ack rank c count) reply (Acked (max x.acked (min count (length (failed limits.ranks view.history c))))) is
        (fits_acked meld limits after now c x (max x.acked (min count (length (failed limits.ranks view.history c)))) fits at (omega (arith, was, same, more)))

    -- .. of all
    failure_ack_left : (rank c : ℕ) (x : Held) (reply : Reply P) → held_at now c ≡ Some x → Exists view.history c → reply ≡ Acked (max x.acked (min most_failures (length (failed limits.ranks view.history c)))) → Leaves (call.FailureAck rank c) reply
    failure_ack_left rank c x reply at here is =
        let both = held_fits meld limits after now c x fits at in
        let was = both.0.acked in
        let same : length (failed limits.ranks after x.comm) ≡ length (failed limits.ranks after c) = ap (λ w. length (failed limits.ranks after w)) both.1 in
        let more = length_prefix (failed limits.ranks view.history c) (failed limits.ranks after c) (failed_begins meld limits view.history after c point_ends legal here) in
        by_reply (call.FailureAck rank c) reply (Acked (max x.acked (min most_failures (length (failed limits.ranks view.history c))))) is
        (fits_acked meld limits after now c x (max x.acked (min most_failures (length (failed limits.ranks view.history c)))) fits at (omega (arith, was, same, more)))

    module _ (rank c : ℕ) (x : Held) (at : held_at now c ≡ Some x) where
      -- the call
      abbrev poll : Call P
      poll = call.Poll rank c

      ended : FitsAfter (closed now c)
      ended = fits_closed meld limits after now c x fits at

      -- an agree is polled
      agreed_left : (k : ℕ) (reply : Reply P) → PollReplies meld limits view now.number x (Some (Agree k)) reply → Leaves poll reply
      agreed_left k reply (inl pending) = by_reply poll reply Pending pending.1 fits
      agreed_left k reply (inr (decided, inl (value, body, is))) = let made = decision meld limits.ranks view.history x.comm k in by_reply poll reply (Agreed made.raised (length made.failed) value) is ended
      agreed_left k reply (inr (decided, inr clash)) = by_reply poll reply (Refused Mismatch) clash.1 ended

      -- a shrink is polled
      shrunk_left : (k : ℕ) (reply : Reply P) → x.request ≡ Some (Shrink k) → Exists view.history x.comm → PollReplies meld limits view now.number x (Some (Shrink k)) reply → Leaves poll reply
      shrunk_left k reply asked here (inl pending) = by_reply poll reply Pending pending.1 fits
      shrunk_left k reply asked here (inr (decided, inr clash)) = by_reply poll reply (Refused Mismatch) clash.1 ended
      shrunk_left k reply asked here (inr (decided, inl (mask, body, inl none))) = by_reply poll reply (Refused NoContext) none.1 ended
      shrunk_left k reply asked here (inr (decided, inl (mask, body, inr (some, stays, inr full)))) = by_reply poll reply (Refused NoRoom) full.2 ended
      shrunk_left k reply asked here (inr (decided, inl (mask, body, inr (some, stays, inl (j, context, first, made, lowest, is))))) =
          let both = found_stays meld limits view.history after now.number x.comm k j mask point_ends legal here decided (record { some = first; made = made; body = body; stays = stays }) in
          by_reply poll reply (Shrunk j context (length (members limits.ranks view.history j))) is
          (subst (λ ms. FitsAfter (let rest = closed now c in record rest { held = rest.held ++ new_held j context ms ∷ [] })) both.1 (fits_shrunk meld limits after legal now c k j context x mask fits at asked both.0 lowest))

      -- a barrier is polled
      waited_left : (k : ℕ) (reply : Reply P) → reply ≡ barrier_reply view x k → Leaves poll reply
      waited_left k reply is =
          by_reply poll reply (barrier_reply view x k) is
          (go (is_revoked view.history x.comm) (list_all (has_arrived view.history x.comm k) x.group) (list_all (has_arrived view.history x.comm k) (filter (has x.group) view.look)))
        where
          go : (revoked all known : Bool) → Leaves poll (cond revoked (Refused IsRevoked) (cond all Done (cond known Pending (Refused ProcFailed))))
          go true all known = ended
          go false true known = ended
          go false false true = fits
          go false false false = ended

      poll_left : (request : Option Request) (reply : Reply P) → x.request ≡ request → Exists view.history x.comm → PollReplies meld limits view now.number x request reply → Leaves poll reply
      poll_left None reply asked here replies = absurd replies
      poll_left (Some (Agree k)) reply asked here replies = agreed_left k reply replies
      poll_left (Some (Shrink k)) reply asked here replies = shrunk_left k reply asked here replies
      poll_left (Some (Barrier k)) reply asked here replies = waited_left k reply replies

    -- a call that the record doesn't refuse
    held_left : (asked : Call P) (x : Held) (reply : Reply P) → held_at now (comm_of asked) ≡ Some x → Exists view.history x.comm → first_refusal (tests_of old x asked) ≡ None → Replies meld limits view old x asked reply → Leaves asked reply
    held_left (call.Fail rank) x reply at here open_to replies = absurd replies
    held_left (call.GetFailed rank c) x reply at here open_to replies = by_reply (call.GetFailed rank c) reply (FailedGroup (length (failed limits.ranks view.history c))) replies.1 fits
    held_left (call.FailureGetAcked rank c) x reply at here open_to replies = by_reply (call.FailureGetAcked rank c) reply (FailedGroup (length (take x.acked (failed limits.ranks view.history c)))) replies.1 fits
    held_left (call.Ack rank c count) x reply at here open_to replies =
        ack_left rank c count x reply at (subst (Exists view.history) (held_fits meld limits after now c x fits at).1 here) replies.1
    held_left (call.FailureAck rank c) x reply at here open_to replies =
        failure_ack_left rank c x reply at (subst (Exists view.history) (held_fits meld limits after now c x fits at).1 here) replies.1
    held_left (call.Agree rank c value) x reply at here open_to replies = agree_left rank c value x reply at replies
    held_left (call.Shrink rank c) x reply at here open_to replies =
        let idle = none_holds (is_some x.request, Busy) ((list_any (λ y. is_shrink y.request) old.held, ShrinkOpen) ∷ (nat_le old.limits.rounds x.next_agreement, RoundsUsedUp) ∷ []) open_to in
        shrink_left rank c x reply at (none_holds (list_any (λ y. is_shrink y.request) old.held, ShrinkOpen) ((nat_le old.limits.rounds x.next_agreement, RoundsUsedUp) ∷ []) idle.1).0 replies
    held_left (call.Barrier rank c) x reply at here open_to replies = barrier_left rank c x reply at replies
    held_left (call.Poll rank c) x reply at here open_to replies = poll_left rank c x at x.request reply refl here replies
    held_left (call.Revoke rank c) x reply at here open_to (revoked, inl is) = by_reply (call.Revoke rank c) reply Revoked is.0 fits
    held_left (call.Revoke rank c) x reply at here open_to (revoked, inr is) = by_reply (call.Revoke rank c) reply AlreadyRevoked is.0 fits
    held_left (call.IsRevoked rank c) x reply at here open_to replies = by_reply (call.IsRevoked rank c) reply (Standing (is_revoked view.history c)) replies fits
    held_left (call.Free rank c) x reply at here open_to replies = by_reply (call.Free rank c) reply Freed replies (fits_kept meld limits after now (λ y. not (y.comm == c)) fits)

    -- a call that the record refuses, or not
    by_record : (asked : Call P) (reply : Reply P) (held : Option Held) (refusal : Option Refusal) → held_at now (comm_of asked) ≡ held → ((x : Held) → held ≡ Some x → Exists view.history x.comm) → refusal_on old held asked ≡ refusal
        → RepliesBy (λ x. Replies meld limits view old x asked reply) reply held refusal → Leaves asked reply
    by_record asked reply held (Some refusal) at here is replies =
        by_reply asked reply (Refused refusal) replies (subst (λ effect. FitsAfter (left_with now (comm_of asked) effect)) (sym (refusal_keeps old held asked refusal is)) fits)
    by_record asked reply (Some x) None at here is replies = held_left asked x reply at (here x refl) is replies
    by_record asked reply None None at here is replies = absurd replies

    -- the record that an answer leaves fits
    pub answer_fits : (asked : Call P) (reply : Reply P) → ((x : Held) → held_at now (comm_of asked) ≡ Some x → Exists view.history x.comm) → IsSelfFailed view old asked reply ⊎ IsReply meld limits view old asked reply → Leaves asked reply
    answer_fits asked reply here (inl own_failed) =
        by_reply asked reply (Refused SelfFailed) own_failed.reply_is
        (fits_refused meld limits after now fits (has_prefix (failures view.history) (failures after) old.number (failures_begin view.history after point_ends) own_failed.declared))
    answer_fits asked reply here (inr answer) = by_record asked reply (held_at old (comm_of asked)) (refusal_of old asked) refl here refl answer.replies
