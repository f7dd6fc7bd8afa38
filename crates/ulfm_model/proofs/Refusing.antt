-- What refusals mean.
use Rattle.std.proofs.Common.{◌≡◌, ◌⊎◌, ℕ, Bool, false, Some, None, inl, inr, refl, ap, sym, ◌∙◌, subst, not, is_some, [], ◌∷◌, arith, IsTrue}
use Rattle.ulfm_laws.specs.declared.{summary.Body.TheVariants.{Clash}}
use Rattle.ulfm_model.specs.declared.{call.Call.{Call}, call.Request.{Request}, call.Request.TheVariants.{Agree, Shrink}, contribution.Offer.{Offer}, contribution.Offer.TheVariants.{Ctx, Flag}, contribution.Slot.TheVariants.{Given}, limits.Limits.{Limits}, refusal.Refusal.{Refusal}, refusal.Refusal.TheVariants.{Idle, Mismatch, NoContext, NoRoom, SelfFailed, Twice}, reply.Reply.{Reply}, reply.Reply.TheVariants.{Refused}}
use Rattle.ulfm_model.specs.declared.call.Call.TheVariants as call
use Rattle.ulfm_model.specs.{Answers.{AgreeReplies, IsReply, IsSelfFailed, PollReplies, Replies, RepliesBy, ShrinkReplies, StartReplies, AtPoint, first_refusal, refusal_of, refusal_on}, History.{Decision, Exists, History, decision, failures, is_decided, slot, spawns}, Records.{Fits, Held, Record, free_ids, held_at}, Runs.{IsRun}}
use Rattle.ulfm_model.proofs.{Decisions.{decision_stays}, Histories.{failures_begin, members_stay, slot_stays}, LeftFits.{held_fits}, Lists.{has_prefix, length_prefix}, Stable.{spawns_begin}, StepsShrinks.{spawns_fit}}
use Rattle.ulfm_model.specs.Terms.{comm_of, rests_on}
use Rattle.ulfm_model.specs.Records.{moment}
use Rattle.ulfm_model.specs.{Rounds.{IsReason}, Told.{PollsRefuse, StartsRefuse}}
use Rattle.ulfm_model.proofs.Telling.{self_failed}

-- a reply that refuses
abbrev refused_by : (P : Type 0) → Refusal → Reply P
refused_by P refusal = Refused refusal

-- the refusal of a reply
same_refusal : (P : Type 0) (a b : Refusal) → refused_by P a ≡ refused_by P b → b ≡ a
same_refusal P a b is = cc is

module _ {P : Type 0} (meld : P → P → P) (limits : Limits) (alone : Bool) (before after : History P) (own new : Record) (c : ℕ) (x : Held) (fits : Fits meld limits before own) (held : held_at own c ≡ Some x) (refusal : Refusal) where
  abbrev Means : ℕ → Bool → Refusal → Type 0
  Means k spread f = IsReason meld limits after (c, k) own.number spread f

  -- a refusal that is known means the same
  known : (k : ℕ) (spread : Bool) (f : Refusal) → refused_by P refusal ≡ Refused f → Means k spread f → Means k spread refusal
  known k spread f is means = subst (Means k spread) (same_refusal P refusal f is) means

  module _ (asked : Call P) (run : IsRun meld limits alone (moment own before) asked (Refused refusal) (moment new after)) where
    abbrev view : AtPoint P
    view = rests_on run.span

    by_failed : (k : ℕ) (spread : Bool) → IsSelfFailed view own asked (Refused refusal) → Means k spread refusal
    by_failed k spread failed = known k spread SelfFailed failed.reply_is (has_prefix (failures run.span.point) (failures after) own.number (failures_begin run.span.point after run.span.point_ends) failed.declared)

    comm_is : x.comm ≡ c
    comm_is = (held_fits meld limits before own c x fits held).1

    exists_then : Exists run.span.point c
    exists_then = (members_stay limits.ranks before run.span.point c run.span.point_begins (subst (Exists before) comm_is (held_fits meld limits before own c x fits held).0.exists)).0

    by_start : (offer : Offer P) → StartReplies view own x offer (Refused refusal) → Means x.next_agreement run.span.spread refusal
    by_start offer (inl started) = absurd (cc (started.0))
    by_start offer (inr (is, none, inl (given, at))) =
        known x.next_agreement run.span.spread Twice is
        (inl (given, slot_stays run.span.point after c x.next_agreement own.number (Given given) run.span.point_ends (subst (λ n. slot run.span.point n x.next_agreement own.number ≡ Some (Given given)) comm_is at)))
    by_start offer (inr (is, none, inr wing)) = known x.next_agreement run.span.spread Twice is (inr wing)

    module _ (k : ℕ) where
      abbrev then : Decision P
      then = decision meld limits.ranks run.span.point c k

      clash_means : IsTrue (is_decided limits.ranks run.span.point c k) → (then.body ≡ Clash) × (refused_by P refusal ≡ Refused Mismatch) → Means k false refusal
      clash_means decided (body, is) =
          let stays = decision_stays meld limits run.span.point after c k run.span.point_ends run.span.legal exists_then decided in
          known k false Mismatch is (stays.0, ap (λ (d : Decision P). d.body) stays.1 ∙ body)

      agree_means : IsTrue (is_decided limits.ranks run.span.point c k) → AgreeReplies then (Refused refusal) → Means k false refusal
      agree_means decided (inl (value, body, is)) = absurd (cc is)
      agree_means decided (inr clash) = clash_means decided clash

      shrink_means : IsTrue (is_decided limits.ranks run.span.point c k) → ShrinkReplies limits run.span.point own.number c k then (Refused refusal) → Means k false refusal
      shrink_means decided (inr clash) = clash_means decided clash
      shrink_means decided (inl (mask, body, inl (none, is))) =
          let stays = decision_stays meld limits run.span.point after c k run.span.point_ends run.span.legal exists_then decided in
          known k false NoContext is (stays.0, (mask, ap (λ (d : Decision P). d.body) stays.1 ∙ body, none))
      shrink_means decided (inl (mask, body, inr (some, stays, inl (j, context, first, made, lowest, is)))) = absurd (cc is)
      shrink_means decided (inl (mask, body, inr (some, stays, inr (full, unmade, is)))) =
          let more = length_prefix (spawns run.span.point) (spawns after) (spawns_begin run.span.point after run.span.point_ends) in
          let most = spawns_fit meld limits after run.span.legal (omega (arith, full)) in
          known k false NoRoom is (omega (arith, full, more, most))

      agree_poll : PollReplies meld limits view own.number x (Some (Agree k)) (Refused refusal) → Means k false refusal
      agree_poll (inl pending) = absurd (cc (pending.1))
      agree_poll (inr decided) = agree_means (subst (λ n. IsTrue (is_decided limits.ranks run.span.point n k)) comm_is decided.0) (subst (λ n. AgreeReplies (decision meld limits.ranks run.span.point n k) (Refused refusal)) comm_is decided.1)

      shrink_poll : PollReplies meld limits view own.number x (Some (Shrink k)) (Refused refusal) → Means k false refusal
      shrink_poll (inl pending) = absurd (cc (pending.1))
      shrink_poll (inr decided) = shrink_means (subst (λ n. IsTrue (is_decided limits.ranks run.span.point n k)) comm_is decided.0) (subst (λ n. ShrinkReplies limits run.span.point own.number n k (decision meld limits.ranks run.span.point n k) (Refused refusal)) comm_is decided.1)

    -- by what the record holds, and that it doesn't refuse
    by_replies : (k : ℕ) (spread : Bool) → comm_of asked ≡ c → refusal_of own asked ≡ None → (Replies meld limits view own x asked (Refused refusal) → Means k spread refusal) → IsSelfFailed view own asked (Refused refusal) ⊎ IsReply meld limits view own asked (Refused refusal) → Means k spread refusal
    by_replies k spread at none means (inl failed) = by_failed k spread failed
    by_replies k spread at none means (inr replied) =
        means (subst (λ o. RepliesBy {P = P} (λ x. Replies meld limits view own x asked (Refused refusal)) (Refused refusal) o None) (ap (held_at own) at ∙ held) (subst (RepliesBy {P = P} (λ x. Replies meld limits view own x asked (Refused refusal)) (Refused refusal) (held_at own (comm_of asked))) none replied.replies))

  idle_not : (request : Request) → x.request ≡ Some request → refusal_of {P = P} own (call.Poll own.number c) ≡ None
  idle_not request is = subst (λ o. refusal_on {P = P} own o (call.Poll own.number c) ≡ None) (sym held) (ap (λ q. first_refusal ((not (is_some q), Idle) ∷ [])) is)

  poll_refused : (request : Request) (k : ℕ) → x.request ≡ Some request → (run : IsRun meld limits alone (moment own before) (call.Poll own.number c) (Refused refusal) (moment new after))
      → (PollReplies meld limits (rests_on run.span) own.number x (Some request) (Refused refusal) → Means k false refusal) → Means k false refusal
  poll_refused request k is run means =
      by_replies (call.Poll own.number c) run k false refl (idle_not request is) (λ replies. means (subst (λ q. PollReplies meld limits (rests_on run.span) own.number x q (Refused refusal)) is replies)) run.answer.replies

module _ {P : Type 0} (meld : P → P → P) where
  pub starts_refused : StartsRefuse meld
  starts_refused limits alone before after own new c x asked refusal fits held kind none (inl refused) =
      subst (IsReason meld limits after (c, x.next_agreement) own.number false) (same_refusal P refusal SelfFailed refused.2)
      (self_failed meld limits alone before after own new asked fits (inl (refused.0, refused.1, refl, refused.3)))
  starts_refused limits alone before after own new c x asked refusal fits held (inl (value, is)) none (inr run) =
      subst
      (λ a. refusal_of own a ≡ None → (run : IsRun meld limits alone (moment own before) a (Refused refusal) (moment new after)) → IsReason meld limits after (c, x.next_agreement) own.number run.span.spread refusal)
      (sym is)
      (λ none run.
      by_replies meld limits alone before after own new c x fits held refusal (call.Agree own.number c value) run x.next_agreement run.span.spread refl none
      (by_start meld limits alone before after own new c x fits held refusal (call.Agree own.number c value) run (Flag value)) run.answer.replies)
      none run
  starts_refused limits alone before after own new c x asked refusal fits held (inr is) none (inr run) =
      subst
      (λ a. refusal_of own a ≡ None → (run : IsRun meld limits alone (moment own before) a (Refused refusal) (moment new after)) → IsReason meld limits after (c, x.next_agreement) own.number run.span.spread refusal)
      (sym is)
      (λ none run.
      by_replies meld limits alone before after own new c x fits held refusal (call.Shrink own.number c) run x.next_agreement run.span.spread refl none
      (by_start meld limits alone before after own new c x fits held refusal (call.Shrink own.number c) run (Ctx (free_ids own.held))) run.answer.replies)
      none run

  pub polls_refused : PollsRefuse meld
  polls_refused limits alone before after own new c k x refusal fits held kind (inl refused) =
      subst (IsReason meld limits after (c, k) own.number false) (same_refusal P refusal SelfFailed refused.2)
      (self_failed meld limits alone before after own new (call.Poll own.number c) fits (inl (refused.0, refused.1, refl, refused.3)))
  polls_refused limits alone before after own new c k x refusal fits held (inl is) (inr run) =
      poll_refused meld limits alone before after own new c x fits held refusal (Agree k) k is run (agree_poll meld limits alone before after own new c x fits held refusal (call.Poll own.number c) run k)
  polls_refused limits alone before after own new c k x refusal fits held (inr is) (inr run) =
      poll_refused meld limits alone before after own new c x fits held refusal (Shrink k) k is run (shrink_poll meld limits alone before after own new c x fits held refusal (call.Poll own.number c) run k)
