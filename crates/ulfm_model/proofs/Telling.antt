-- What the calls of one request leave and tell.
use Rattle.std.proofs.Common.{◌≡◌, ℕ, ◌+◌, ◌==◌, Bool, true, false, cond, not, List, [], ◌∷◌, Option, Some, inl, inr, refl, ap, sym, ◌∙◌, subst, length, IsTrue, IsFalse, ◌-◌, ◌<◌, arith}
use Rattle.std.specs.Prelude.{find, ⊤}
use Rattle.std.proofs.lemmas.Bool.{eqb-true}
use mathlib.Core.List.{IsPrefix}
use Rattle.ulfm_laws.specs.declared.summary.CtxMask.{CtxMask}
use Rattle.ulfm_laws.specs.declared.summary.Body.TheVariants.{Ctx as OfIds}
use Rattle.ulfm_model.specs.declared.{call.Request.{Request}, call.Request.TheVariants.{Agree, Shrink}, contribution.Offer.{Offer}, contribution.Offer.TheVariants.{Flag}, contribution.Slot.TheVariants.{Given}, event.Caller.TheVariants.{Rank}, limits.Limits.{Limits}, refusal.Refusal.{Refusal}, refusal.Refusal.TheVariants.{Mismatch, NoContext, NoRoom, SelfFailed}, reply.Reply.{Reply}, reply.Reply.TheVariants.{Agreed, Pending, Refused, Shrunk, Started}}
use Rattle.ulfm_model.specs.declared.call.Call.TheVariants as call
use Rattle.ulfm_model.specs.{Answers.{AgreeReplies, Contributes, PollReplies, ShrinkReplies, SpawnReplies, StartReplies, left_by, opened}, History.{Decision, Exists, History, decision, failures, has, is_decided, members, slot}, Records.{Fits, Held, Record, change_at, held_at}, Runs.{IsCall, IsRun, IsSpan}}
use Rattle.ulfm_model.proofs.{Decisions.{decision_stays}, Histories.{members_stay, slot_stays}, LeftFits.{held_fits}, LeftRuns.{call_fits, call_number, span_begins}, LeftShrunk.{found_stays}, Lists.{each_always, find_holds, has_kept}, Spawned.{members_of_spawned}}
use Rattle.ulfm_model.specs.Terms.{rests_on}
use Rattle.ulfm_model.specs.Records.{moment}
use Rattle.ulfm_model.specs.{Rounds.{Gave, IsDecision, IsMadeOf}, Told.{AgreesOpen, AgreesTell, IsFinalReply, PendingKeeps, SelfFailedIsDeclared, ShrinksOpen, ShrinksTell}}
use Rattle.ulfm_model.proofs.RoundAnswers.{answered_on}

-- a communicator that is changed is found as it is changed
pub find_change : (c : ℕ) (f : Held → Held) → ((y : Held) → (f y).comm ≡ y.comm) → (held : List Held) (x : Held) → find (λ y. y.comm == c) held ≡ Some x → find (λ y. y.comm == c) (change_at c f held) ≡ Some (f x)
find_change c f same [] x at = absurd (cc at)
find_change c f same (y ∷ held) x at = go (y.comm == c) refl (λ at. find_change c f same held x at) at
  where
    go : (b : Bool) → (y.comm == c) ≡ b → (find (λ y. y.comm == c) held ≡ Some x → find (λ y. y.comm == c) (change_at c f held) ≡ Some (f x)) → cond b (Some y) (find (λ y. y.comm == c) held) ≡ Some x
        → find (λ y. y.comm == c) (cond b (f y ∷ held) (y ∷ change_at c f held)) ≡ Some (f x)
    go true is more at = let one : y ≡ x = cc at in
        subst (λ w. cond w (Some (f y)) (find (λ y. y.comm == c) held) ≡ Some (f x)) (sym (ap (λ n. n == c) (same y) ∙ is)) (ap (λ w. Some (f w)) one)
    go false is more at = subst (λ w. cond w (Some y) (find (λ y. y.comm == c) (change_at c f held)) ≡ Some (f x)) (sym is) (more at)

-- two things found at one place are one
same_found : {X : Type 0} (o : Option X) (x y : X) → o ≡ Some x → o ≡ Some y → x ≡ y
same_found o x y here there = cc (here, there)

-- what is found of a communicator has its number
found_comm : (held : List Held) (c : ℕ) (x : Held) → find (λ y. y.comm == c) held ≡ Some x → x.comm ≡ c
found_comm held c x at = eqb-true x.comm c (find_holds (λ y. y.comm == c) (λ _. ⊤) held x (each_always (λ _. ⊤) (λ _. tt) held) at).1

module _ {P : Type 0} (meld : P → P → P) (limits : Limits) (alone : Bool) (before after : History P) (own new : Record) (c : ℕ) (x : Held) (held : held_at own c ≡ Some x) where
  -- the contribution of a start stands at its end
  gave_stays : (span : IsSpan meld limits alone before after (Rank own.number)) (offer : Offer P) (gives : Contributes (rests_on span) own x offer) → slot after c x.next_agreement own.number ≡ Some (Given gives.given)
  gave_stays span offer gives =
      slot_stays span.point after c x.next_agreement own.number (Given gives.given) span.point_ends
      (subst (λ n. slot span.point n x.next_agreement own.number ≡ Some (Given gives.given)) (found_comm own.held c x held) gives.stands)

  agree_run : (value : P) (run : IsRun meld limits alone (moment own before) (call.Agree own.number c value) Started (moment new after))
      → (new.held ≡ change_at c (λ y. opened y (Some (Agree y.next_agreement))) own.held) × Gave after c x.next_agreement own.number value
  agree_run value run =
      let on = answered_on meld limits alone before after own (call.Agree own.number c value) Started new run (λ refusal is. absurd (cc is)) in
      let one = same_found (held_at own c) on.x x on.held held in
      go (subst (λ y. StartReplies (rests_on run.span) own y (Flag value) Started) one on.replies)
    where
      go : StartReplies (rests_on run.span) own x (Flag value) Started → (new.held ≡ change_at c (λ y. opened y (Some (Agree y.next_agreement))) own.held) × Gave after c x.next_agreement own.number value
      go (inl (is, gives)) = (
        ap (λ (w : Record). w.held) run.answer.leaves.record_is,
        record { given = gives.given; stands = gave_stays run.span (Flag value) gives; flag_is = gives.offer_is },
      )
      go (inr twice) = absurd (cc (twice.0))

module _ {P : Type 0} (meld : P → P → P) (limits : Limits) (alone : Bool) (before after : History P) (own new : Record) (c : ℕ) (x : Held) (fits : Fits meld limits before own) (held : held_at own c ≡ Some x) where
  module _ (k : ℕ) (reply : Reply P) (ended : IsFinalReply reply) where
    -- an ended reply is no refusal, and not pending
    no_refusal : (refusal : Refusal) → reply ≡ Refused refusal → ⊥
    no_refusal refusal is = go ended
      where
        go : IsFinalReply reply → ⊥
        go (inl agreed) = cc (agreed.3, is)
        go (inr (inl shrunk)) = cc (shrunk.3, is)
        go (inr (inr done)) = cc (done, is)

    not_pending : reply ≡ Pending → ⊥
    not_pending is = go ended
      where
        go : IsFinalReply reply → ⊥
        go (inl agreed) = cc (agreed.3, is)
        go (inr (inl shrunk)) = cc (shrunk.3, is)
        go (inr (inr done)) = cc (done, is)

    -- what the poll of the request says at its point
    at_point : (request : Request) → x.request ≡ Some request → (run : IsRun meld limits alone (moment own before) (call.Poll own.number c) reply (moment new after)) → PollReplies meld limits (rests_on run.span) own.number x (Some request) reply
    at_point request open_is run =
        let on = answered_on meld limits alone before after own (call.Poll own.number c) reply new run no_refusal in
        let one = same_found (held_at own c) on.x x on.held held in
        subst (λ q. PollReplies meld limits (rests_on run.span) own.number x q reply) open_is (subst (λ y. PollReplies meld limits (rests_on run.span) own.number y y.request reply) one on.replies)

    module _ (run : IsRun meld limits alone (moment own before) (call.Poll own.number c) reply (moment new after)) where
      abbrev point : History P
      point = run.span.point

      comm_is : x.comm ≡ c
      comm_is = (held_fits meld limits before own c x fits held).1

      exists_then : Exists point c
      exists_then = (members_stay limits.ranks before point c run.span.point_begins (subst (Exists before) comm_is (held_fits meld limits before own c x fits held).0.exists)).0

      agree_told : IsTrue (is_decided limits.ranks point c k) → AgreeReplies (decision meld limits.ranks point c k) reply → IsDecision meld limits after c k reply
      agree_told decided (inl (value, body, is)) =
          let stays = decision_stays meld limits point after c k run.span.point_ends run.span.legal exists_then decided in
          record {
            decided = stays.0;
            value = value;
            body = ap (λ (d : Decision P). d.body) stays.1 ∙ body;
            reply_is = subst (λ (d : Decision P). reply ≡ Agreed d.raised (length d.failed) value) (sym stays.1) is;
          }
      agree_told decided (inr clash) = absurd (no_refusal Mismatch clash.1)

      agree_answer : PollReplies meld limits (rests_on run.span) own.number x (Some (Agree k)) reply → IsDecision meld limits after c k reply
      agree_answer (inl pending) = absurd (not_pending pending.1)
      agree_answer (inr decided) =
          agree_told (subst (λ n. IsTrue (is_decided limits.ranks point n k)) comm_is decided.0) (subst (λ n. AgreeReplies (decision meld limits.ranks point n k) reply) comm_is decided.1)

      spawn_told : (mask : CtxMask) → IsTrue (is_decided limits.ranks point c k) → (decision meld limits.ranks point c k).body ≡ OfIds mask → IsFalse (has (decision meld limits.ranks point c k).failed own.number)
          → SpawnReplies limits point c k mask.bits reply → IsMadeOf meld limits after c k own.number reply
      spawn_told mask decided body stays (inl (j, context, first, made, lowest, is)) =
          let both = found_stays meld limits point after own.number c k j mask run.span.point_ends run.span.legal exists_then decided (record { some = first; made = made; body = body; stays = stays }) in
          let still = decision_stays meld limits point after c k run.span.point_ends run.span.legal exists_then decided in
          let group = (members_of_spawned meld limits after run.span.legal (j - 1) c k both.0.made).group in
          let there = held_fits meld limits before own c x fits held in
          let member : IsTrue (has (members limits.ranks before c) own.number) = subst (λ n. IsTrue (has (members limits.ranks before n) own.number)) comm_is (subst (λ g. IsTrue (has g own.number)) there.0.group there.0.member) in
          let same = members_stay limits.ranks before after c (begins run.span) (subst (Exists before) comm_is there.0.exists) in
          let later : IsTrue (has (members limits.ranks after c) own.number) = subst (λ g. IsTrue (has g own.number)) (sym same.1) member in
          let kept = has_kept (λ m. not (has (decision meld limits.ranks after c k).failed m)) (members limits.ranks after c) own.number later (ap not both.0.stays) in
          record {
            decided = still.0;
            comm = j;
            above = first;
            made = both.0.made;
            context = context;
            context_is = inr (c, k, mask, first, both.0.made, both.0.body, lowest);
            member = subst (λ g. IsTrue (has g own.number)) (sym (ap (λ n. members limits.ranks after n) (back j first) ∙ group)) kept;
            reply_is = subst (λ ms. reply ≡ Shrunk j context (length ms)) (sym both.1) is;
          }
        where
          begins : (span : IsSpan meld limits alone before after (Rank own.number)) → IsPrefix before after
          begins span = span_begins meld limits alone before after (Rank own.number) span

          back : (j : ℕ) → 0 < j → j ≡ j - 1 + 1
          back j first = omega (arith, first)
      spawn_told mask decided body stays (inr full) = absurd (no_refusal NoRoom full.2)

      shrink_told : IsTrue (is_decided limits.ranks point c k) → ShrinkReplies limits point own.number c k (decision meld limits.ranks point c k) reply → IsMadeOf meld limits after c k own.number reply
      shrink_told decided (inr clash) = absurd (no_refusal Mismatch clash.1)
      shrink_told decided (inl (mask, body, inl none)) = absurd (no_refusal NoContext none.1)
      shrink_told decided (inl (mask, body, inr (some, stays, spawned))) = spawn_told mask decided body stays spawned

      shrink_answer : PollReplies meld limits (rests_on run.span) own.number x (Some (Shrink k)) reply → IsMadeOf meld limits after c k own.number reply
      shrink_answer (inl pending) = absurd (not_pending pending.1)
      shrink_answer (inr decided) =
          shrink_told (subst (λ n. IsTrue (is_decided limits.ranks point n k)) comm_is decided.0) (subst (λ n. ShrinkReplies limits point own.number n k (decision meld limits.ranks point n k) reply) comm_is decided.1)

module _ {P : Type 0} (meld : P → P → P) where
  -- an agree that started is open, and the rank has given its flag, whether its record fitted before or not
  pub agree_opened : (limits : Limits) (alone : Bool) (before after : History P) (own new : Record) (c : ℕ) (value : P) (x : Held) → held_at own c ≡ Some x
      → IsCall meld limits alone (moment own before) (call.Agree own.number c value) Started (moment new after)
      → (new.held ≡ change_at c (λ y. opened y (Some (Agree y.next_agreement))) own.held) × Gave after c x.next_agreement own.number value
  agree_opened limits alone before after own new c value x held (inl refused) = absurd (cc (refused.2))
  agree_opened limits alone before after own new c value x held (inr run) = agree_run meld limits alone before after own new c x held value run

  pub agree_opens : AgreesOpen meld
  agree_opens limits alone before after own new c value x fits held called = agree_opened limits alone before after own new c value x held called

  -- so is a shrink
  pub shrink_opened : (limits : Limits) (alone : Bool) (before after : History P) (own new : Record) (c : ℕ) → IsCall meld limits alone (moment own before) (call.Shrink own.number c) Started (moment new after)
      → new.held ≡ change_at c (λ y. opened y (Some (Shrink y.next_agreement))) own.held
  shrink_opened limits alone before after own new c (inl refused) = absurd (cc (refused.2))
  shrink_opened limits alone before after own new c (inr run) = ap (λ (w : Record). w.held) run.answer.leaves.record_is

  pub shrink_opens : ShrinksOpen meld
  shrink_opens limits alone before after own new c x fits held called = shrink_opened limits alone before after own new c called

  pub pending_holds : PendingKeeps meld
  pending_holds limits alone before after own new c (inl refused) = absurd (cc (refused.2))
  pending_holds limits alone before after own new c (inr run) = ap (λ (w : Record). w.held) run.answer.leaves.record_is

  pub agree_tells : AgreesTell meld
  agree_tells limits alone before after own new c k x reply fits held open_is ended (inl refused) = absurd (no_refusal meld limits alone before after own new c x fits held k reply ended SelfFailed refused.2)
  agree_tells limits alone before after own new c k x reply fits held open_is ended (inr run) =
      let told = agree_answer meld limits alone before after own new c x fits held k reply ended run (at_point meld limits alone before after own new c x fits held k reply ended (Agree k) open_is run) in
      (told, ap (λ (w : Record). w.held) (run.answer.leaves.record_is ∙ ap (λ r. left_by limits.ranks run.span.point (record own { seen = new.seen }) (call.Poll own.number c) r) told.reply_is))

  pub shrink_tells : ShrinksTell meld
  shrink_tells limits alone before after own new c k x reply fits held open_is ended (inl refused) = absurd (no_refusal meld limits alone before after own new c x fits held k reply ended SelfFailed refused.2)
  shrink_tells limits alone before after own new c k x reply fits held open_is ended (inr run) =
      let made = shrink_answer meld limits alone before after own new c x fits held k reply ended run (at_point meld limits alone before after own new c x fits held k reply ended (Shrink k) open_is run) in
      (made, (_, refl, ap (λ (w : Record). w.held) (run.answer.leaves.record_is ∙ ap (λ r. left_by limits.ranks run.span.point (record own { seen = new.seen }) (call.Poll own.number c) r) made.reply_is)))

  pub self_failed : SelfFailedIsDeclared meld
  self_failed limits alone before after own new asked fits called =
      let still = call_fits meld limits alone before after own asked (Refused SelfFailed) new fits called in
      let number = call_number meld limits alone before after own asked (Refused SelfFailed) new called in
      subst (λ n. IsTrue (has (failures after) n)) number (still.refused (go called))
    where
      go : IsCall meld limits alone (moment own before) asked (Refused SelfFailed) (moment new after) → IsTrue new.refused
      go (inl refused) = ap (λ (w : Record). w.refused) refused.3 ∙ refused.0
      go (inr run) = ap (λ (w : Record). w.refused) run.answer.leaves.record_is
