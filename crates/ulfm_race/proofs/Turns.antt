-- What a rank of a race is told by its agrees and its shrink, and how they leave it.
use Rattle.std.proofs.Common.{◌≡◌, ◌⊎◌, ℕ, zero, suc, ◌+◌, ◌-◌, ◌<◌, ◌≤◌, ◌==◌, Bool, true, false, cond, List, [], ◌∷◌, ◌++◌, length, Some, None, Result, Ok, Err, inl, inr, refl, ap, sym, ◌∙◌, subst, arith, slice_get, is_some, nat_le, IsFalse, length-append, IfOk}
use Rattle.std.specs.Prelude.{find}
use Rattle.std.specs.List.{list_any}
use mathlib.Core.{Bool.{◌||◌}, List.{IsPrefix}}
use Rattle.ulfm_laws.specs.{declared.flag_and.FlagAnd.{FlagAnd}, Flags.{flag_meld}}
use Rattle.ulfm_model.specs.declared.{call.Call.{Call}, call.Call.TheVariants.{Agree, Poll, Shrink}, call.Request.TheVariants.{Agree as OpenAgree, Shrink as OpenShrink}, limits.Limits.{Limits}, refusal.Refusal.{Refusal}, refusal.Refusal.TheVariants.{Busy, RoundsUsedUp, ShrinkOpen}, reply.Reply.{Reply}, reply.Reply.TheVariants.{Refused, Started}}
use Rattle.ulfm_model.specs.{Answers.{first_refusal, opened, refusal_of, refusal_on}, History.{History, IsLegal, first_ranks, spawns}, Records.{Fits, Held, Record, change_at, held_at, is_shrink, new_held, new_record}}
use Rattle.ulfm_model.proofs.{LeftRuns.{call_number}, Lists.{in_list, prefix_trans}, StepsShrinks.{spawns_fit}}
use Rattle.ulfm_words.specs.Steps.{view_at, IsView, Over, Sight}
use Rattle.ulfm_comm.specs.{Calls.{Calls, EndsBy, is_out_of_memory}, Polls.{polled}}
use Rattle.ulfm_comm.specs.declared.calls.polled.Polled.{Polled}
use Rattle.ulfm_comm.proofs.CallRuns.{called_run}
use Rattle.ulfm_comm.specs.Local.{local}
use Rattle.ulfm_model.specs.{Rounds.{AreAgreed, Gave, IsDecision, IsMadeOf, IsReason, IsRefusal}, Told.{spread_in}}
use Rattle.ulfm_model.proofs.{Refusing.{polls_refused, starts_refused}, Staying.{agreed_last, gave_lasts, replies_last}, Telling.{agree_opens, agree_tells, shrink_opens, shrink_tells}}
use Rattle.ulfm_wait.specs.Waits.{IsPolledOn}
use Rattle.ulfm_wait.proofs.Waiting.{IsLast, answer_ends, goes_on, last_poll}
use Rattle.ulfm_race.specs.Races.{IsAnswered, IsKeptReply, IsReady, SaysAgree, WasLet, flag_of, is_refused, is_shrunk, limits_of}
use Rattle.ulfm_race.specs.declared.{plan.Plan.{Plan}, plan.Turn.{Turn}}

-- what stands in a list with one more element stood there before, or is that element
pub at_push : {X : Type 0} (xs : List X) (x y : X) (n : ℕ) → slice_get (xs ++ x ∷ []) n ≡ Some y → (slice_get xs n ≡ Some y) ⊎ ((n ≡ length xs) × (x ≡ y))
at_push [] x y zero e = inr (refl, cc)
at_push [] x y (suc n) e = absurd (cc e)
at_push (z ∷ xs) x y zero e = inl e
at_push (z ∷ xs) x y (suc n) e = elim (at_push xs x y n e) [ inl h ↦ inl h | inr h ↦ inr (omega (arith, h.0), h.1) ]

-- no element passes a test, if none at any index does
pub any_none : {X : Type 0} (p : X → Bool) (xs : List X) → ((n : ℕ) (x : X) → slice_get xs n ≡ Some x → p x ≡ false) → list_any p xs ≡ false
any_none p [] none = refl
any_none p (x ∷ xs) none = ap (λ b. b || list_any p xs) (none 0 x refl) ∙ any_none p xs (λ n y at. none (suc n) y at)

-- the same with one more element
pub any_push : {X : Type 0} (p : X → Bool) (xs : List X) (x : X) → list_any p (xs ++ x ∷ []) ≡ (list_any p xs || p x)
any_push p [] x = go (p x)
  where
    go : (b : Bool) → (b || false) ≡ b
    go true = refl
    go false = refl
any_push p (y ∷ xs) x = ap (λ b. p y || b) (any_push p xs x) ∙ go (p y)
  where
    go : (b : Bool) → (b || (list_any p xs || p x)) ≡ ((b || list_any p xs) || p x)
    go true = refl
    go false = refl

-- what follows of each value follows of a result
pub if_ok : {X E : Type 0} (P Q : X → Type 0) → ((x : X) → P x → Q x) → (o : Result X E) → IfOk o P → IfOk o Q
if_ok P Q imp (Ok x) is = imp x is
if_ok P Q imp (Err e) is = tt

-- what follows of each value follows of one
pub ok_holds : {X E : Type 0} (A : Type 0) (o : Result X E) → IfOk o (λ _. A) → (x : X) × (o ≡ Ok x) → A
ok_holds A (Ok x) is some = is
ok_holds A (Err e) is some = absurd (cc (some.1))

late_not : (a b : ℕ) → b < a → nat_le a b ≡ false
late_not a b lt = grind (arith, lt)

-- the replies to agrees make no communicator
agreed_plain : (plan : Plan) (h : History FlagAnd) (r : ℕ) (said : List (Reply FlagAnd)) → AreAgreed flag_meld (limits_of plan) h 0 (flag_of r) r said → list_any is_shrunk said ≡ false
agreed_plain plan h r said agreed = any_none is_shrunk said (λ n reply at. ap is_shrunk (agreed n reply at).0.reply_is)

module _ (plan : Plan) (name : Over FlagAnd) (same : name.limits ≡ limits_of plan) (k : ℕ) (in_time : k ≤ plan.rounds) (own : Record) (at : Sight FlagAnd) (of : IsView flag_meld (view_at name at)) (fits : Fits flag_meld name.limits at.seen own) (said : List (Reply FlagAnd)) (ready : IsReady plan own.number k own at.seen said) where
  abbrev x : Held
  x = ready.x

  abbrev r : ℕ
  r = own.number

  abbrev limits : Limits
  limits = name.limits

  held_now : held_at own 0 ≡ Some x
  held_now = ap (λ h. find (λ y. y.comm == 0) h) ready.held ∙ ap (λ n. cond (n == 0) (Some x) None) ready.comm

  changed : (f : Held → Held) → change_at 0 f own.held ≡ f x ∷ []
  changed f = ap (change_at 0 f) ready.held ∙ ap (λ n. cond (n == 0) (f x ∷ []) (x ∷ [])) ready.comm

  rounds_are : own.limits.rounds ≡ plan.rounds + 1
  rounds_are = ap (λ (l : Limits). l.rounds) (fits.same_limits ∙ same)

  agree_not_refused : (value : FlagAnd) → k < plan.rounds → refusal_of own (Agree own.number 0 value) ≡ None
  agree_not_refused value early =
      let rounds = rounds_are in
      let next = ready.next in
      let late : nat_le own.limits.rounds (x.next_agreement + 1) ≡ false = late_not own.limits.rounds (x.next_agreement + 1) (omega (arith, rounds, next, early)) in
      subst (λ o. refusal_on own o (Agree own.number 0 value) ≡ None) (sym held_now)
      (subst (λ b. first_refusal ((is_some x.request, Busy) ∷ (b, RoundsUsedUp) ∷ []) ≡ None) (sym late) (ap (λ q. first_refusal ((is_some q, Busy) ∷ (false, RoundsUsedUp) ∷ [])) ready.request))

  shrink_not_refused : refusal_of {P = FlagAnd} own (Shrink own.number 0) ≡ None
  shrink_not_refused =
      let rounds = rounds_are in
      let next = ready.next in
      let late : nat_le own.limits.rounds x.next_agreement ≡ false = late_not own.limits.rounds x.next_agreement (omega (arith, rounds, next, in_time)) in
      let none_open : list_any (λ y. is_shrink y.request) own.held ≡ false = ap (λ h. list_any (λ y. is_shrink y.request) h) ready.held ∙ ap (λ q. is_shrink q || false) ready.request in
      subst (λ o. refusal_on {P = FlagAnd} own o (Shrink own.number 0) ≡ None) (sym held_now)
      (subst (λ b. first_refusal ((is_some x.request, Busy) ∷ (list_any (λ y. is_shrink y.request) own.held, ShrinkOpen) ∷ (b, RoundsUsedUp) ∷ []) ≡ None) (sym late)
      (subst (λ b. first_refusal ((is_some x.request, Busy) ∷ (b, ShrinkOpen) ∷ (false, RoundsUsedUp) ∷ []) ≡ None) (sym none_open)
      (ap (λ q. first_refusal ((is_some q, Busy) ∷ (false, ShrinkOpen) ∷ (false, RoundsUsedUp) ∷ [])) ready.request)))

  reason_is : (h : History FlagAnd) (j : ℕ) (spread : Bool) (f : Refusal) → j ≡ k → IsReason flag_meld limits h (0, j) r spread f → IsReason flag_meld (limits_of plan) h (0, k) r spread f
  reason_is h j spread f is reason = subst (λ l. IsReason flag_meld l h (0, k) r spread f) same (subst (λ n. IsReason flag_meld limits h (0, n) r spread f) is reason)

  -- what it was answered before stays
  before_last : (after : Sight FlagAnd) → IsView flag_meld (view_at name after) → IsPrefix at.seen after.seen → AreAgreed flag_meld (limits_of plan) after.seen 0 (flag_of r) r said
  before_last after new_of begins = agreed_last flag_meld (limits_of plan) at.seen after.seen begins (subst (λ l. IsLegal flag_meld l after.seen) same new_of.legal) 0 (flag_of r) r said (omega arith) ready.agreed

  -- what the rank was answered ends with a refusal, or with what its shrink made
  ends_so : (last : Reply FlagAnd) (new : Record) (h : History FlagAnd) → AreAgreed flag_meld (limits_of plan) h 0 (flag_of r) r said
      → IsRefusal flag_meld (limits_of plan) h 0 (length said) r last ⊎ ((length said ≡ plan.rounds) × IsMadeOf flag_meld (limits_of plan) h 0 plan.rounds r last)
      → (list_any is_shrunk (said ++ last ∷ []) ≡ true → (z : Held) × (held_at new 1 ≡ Some z)) → IsAnswered plan h r new (said ++ last ∷ [])
  ends_so last new h agreed ends holds =
      let count = ready.count in
      record { answered = record { agreed = said; last = last; all = refl; few = omega (arith, count, in_time); each = agreed; ends = ends }; holds = holds }

  -- a refusal with its reason ends what the rank was answered
  ended : (spread : Bool) (refusal : Refusal) (new : Record) (after : Sight FlagAnd) → IsView flag_meld (view_at name after) → IsPrefix at.seen after.seen → IsReason flag_meld (limits_of plan) after.seen (0, k) r spread refusal → IsAnswered plan after.seen r new (said ++ Refused refusal ∷ [])
  ended spread refusal new after new_of begins reason =
      let count = ready.count in
      let agreed = before_last after new_of begins in
      let none : list_any is_shrunk (said ++ Refused refusal ∷ []) ≡ false = any_push is_shrunk said (Refused refusal) ∙ ap (λ b. b || false) (agreed_plain plan after.seen r said agreed) in
      ends_so (Refused refusal) new after.seen agreed
      (inl (record { refusal = refusal; reply_is = refl; spread = spread; reason = subst (λ n. IsReason flag_meld (limits_of plan) after.seen (0, n) r spread refusal) (sym count) reason }))
      (λ some. absurd (cc (none, some)))

  -- a start that is refused has its reason
  start_refused : (asked : Call FlagAnd) → ((value : FlagAnd) × (asked ≡ Agree own.number 0 value)) ⊎ (asked ≡ Shrink own.number 0) → refusal_of own asked ≡ None
      → (refusal : Refusal) (new : Record) (after : Sight FlagAnd) → Calls flag_meld false asked (local own (view_at name at)) (Refused refusal) (local new (view_at name after)) → IsAnswered plan after.seen r new (said ++ Refused refusal ∷ [])
  start_refused asked kind not_refused refusal new after calls =
      let called = called_run flag_meld false name asked own at (Refused refusal) new after calls in
      ended (spread_in called) refusal new after calls.linearizes.of (goes_on flag_meld false name 0 asked own at (Refused refusal) new after of calls)
      (reason_is after.seen x.next_agreement (spread_in called) refusal ready.next (starts_refused flag_meld limits false at.seen after.seen own new 0 x asked refusal fits held_now kind not_refused called))

  pub agree_refused : k < plan.rounds → (refusal : Refusal) (new : Record) (after : Sight FlagAnd) → Calls flag_meld false (Agree own.number 0 (flag_of r k)) (local own (view_at name at)) (Refused refusal) (local new (view_at name after)) → SaysAgree plan r k said new after.seen (Refused refusal)
  agree_refused early refusal new after calls =
      inl (refl, start_refused (Agree own.number 0 (flag_of r k)) (inl (flag_of r k, refl)) (agree_not_refused (flag_of r k) early) refusal new after calls)

  pub shrink_refused : (refusal : Refusal) (new : Record) (after : Sight FlagAnd) → Calls flag_meld false (Shrink own.number 0) (local own (view_at name at)) (Refused refusal) (local new (view_at name after)) → IsAnswered plan after.seen r new (said ++ Refused refusal ∷ [])
  shrink_refused refusal new after calls = start_refused (Shrink own.number 0) (inr refl) shrink_not_refused refusal new after calls

  -- a start that started, as whose request communicator 0 is held so, and polls of it that go on until one is answered
  module _ (asked : Call FlagAnd) (y : Held) (comm : y.comm ≡ 0) (mid : Record) (then : Sight FlagAnd) (starts : Calls flag_meld false asked (local own (view_at name at)) Started (local mid (view_at name then))) (opens : mid.held ≡ y ∷ []) (new : Record) (after : Sight FlagAnd) where
    from_start : IsPrefix at.seen then.seen
    from_start = goes_on flag_meld false name 0 asked own at Started mid then of starts

    module _ (answer : Result (Polled FlagAnd) Refusal) (last : IsLast flag_meld false name 0 mid then answer new after) where
      last_held : last.own.held ≡ y ∷ []
      last_held = last.pended.held ∙ opens

      there : held_at last.own 0 ≡ Some y
      there = ap (λ h. find (λ y. y.comm == 0) h) last_held ∙ ap (λ n. cond (n == 0) (Some y) None) comm

      number_is : last.own.number ≡ r
      number_is = last.pended.number ∙ call_number flag_meld limits false at.seen then.seen own asked Started mid (called_run flag_meld false name asked own at Started mid then starts)

      last_closed : change_at 0 (λ z. record z { request = None }) last.own.held ≡ record y { request = None } ∷ []
      last_closed = ap (change_at 0 (λ z. record z { request = None })) last_held ∙ ap (λ n. cond (n == 0) (record y { request = None } ∷ []) (y ∷ [])) comm

      seen_from : (reply : Reply FlagAnd) → Calls flag_meld false (Poll last.own.number 0) (local last.own (view_at name last.at)) reply (local new (view_at name after)) → IsPrefix then.seen after.seen
      seen_from reply calls = prefix_trans then.seen last.at.seen after.seen last.pended.begins (goes_on flag_meld false name 0 (Poll last.own.number 0) last.own last.at reply new after last.of calls)

      all_from : (reply : Reply FlagAnd) → Calls flag_meld false (Poll last.own.number 0) (local last.own (view_at name last.at)) reply (local new (view_at name after)) → IsPrefix at.seen after.seen
      all_from reply calls = prefix_trans at.seen then.seen after.seen from_start (seen_from reply calls)

    -- a poll that is refused
    poll_refused : (refusal : Refusal) → (y.request ≡ Some (OpenAgree k)) ⊎ (y.request ≡ Some (OpenShrink k)) → IsFalse (is_out_of_memory refusal) → IsPolledOn flag_meld false 0 (local mid (view_at name then)) (Err refusal) (local new (view_at name after)) → IsAnswered plan after.seen r new (said ++ Refused refusal ∷ [])
    poll_refused refusal which kept polls =
        let last = last_poll flag_meld false name 0 polls.0 mid then (Err refusal) new after starts.linearizes.of starts.linearizes.fits polls.1 in
        let calls = subst (λ b. EndsBy flag_meld false (Poll last.own.number 0) (local last.own (view_at name last.at)) refusal b (local new (view_at name after))) kept last.poll in
        let reason = polls_refused flag_meld limits false last.at.seen after.seen last.own new 0 k y refusal last.fits (there (Err refusal) last) which (called_run flag_meld false name (Poll last.own.number 0) last.own last.at (Refused refusal) new after calls) in
        ended false refusal new after calls.linearizes.of (all_from (Err refusal) last (Refused refusal) calls)
        (reason_is after.seen k false refusal refl (subst (λ n. IsReason flag_meld limits after.seen (0, k) n false refusal) (number_is (Err refusal) last) reason))

  -- one reply more to an agree
  agreed_push : (h : History FlagAnd) (reply : Reply FlagAnd) → AreAgreed flag_meld (limits_of plan) h 0 (flag_of r) r said → IsDecision flag_meld (limits_of plan) h 0 k reply → Gave h 0 k r (flag_of r k) → AreAgreed flag_meld (limits_of plan) h 0 (flag_of r) r (said ++ reply ∷ [])
  agreed_push h reply before decided gave i given here = elim (at_push said reply given i here) [
    | inl old ↦ before i given old
    | inr this ↦
        let count = ready.count in
        let one : k ≡ i = omega (arith, count, this.0) in
        subst (λ n. IsDecision flag_meld (limits_of plan) h 0 n given × Gave h 0 n r (flag_of r n)) one (subst (IsDecision flag_meld (limits_of plan) h 0 k) this.1 decided, gave)
  ]

  module _ (early : k < plan.rounds) (mid : Record) (then : Sight FlagAnd) (starts : Calls flag_meld false (Agree own.number 0 (flag_of r k)) (local own (view_at name at)) Started (local mid (view_at name then))) (new : Record) (after : Sight FlagAnd) where
    agree_starts : (mid.held ≡ change_at 0 (λ y. opened y (Some (OpenAgree y.next_agreement))) own.held) × Gave then.seen 0 x.next_agreement own.number (flag_of r k)
    agree_starts = agree_opens flag_meld limits false at.seen then.seen own mid 0 (flag_of r k) x fits held_now (called_run flag_meld false name (Agree own.number 0 (flag_of r k)) own at Started mid then starts)

    agree_is_open : mid.held ≡ opened x (Some (OpenAgree k)) ∷ []
    agree_is_open = agree_starts.0 ∙ (changed (λ y. opened y (Some (OpenAgree y.next_agreement))) ∙ ap (λ n. opened x (Some (OpenAgree n)) ∷ []) ready.next)

    -- the reply of an agree that was answered
    agreed_says : (reply : Polled FlagAnd) (last : IsLast flag_meld false name 0 mid then (Ok reply) new after) → IsFalse (is_refused (polled reply)) × IsReady plan r (k + 1) new after.seen (said ++ polled reply ∷ [])
    agreed_says reply last =
        let asked : Call FlagAnd = Agree own.number 0 (flag_of r k) in
        let y : Held = opened x (Some (OpenAgree k)) in
        let run = called_run flag_meld false name (Poll last.own.number 0) last.own last.at (polled reply) new after last.poll in
        let told = agree_tells flag_meld limits false last.at.seen after.seen last.own new 0 k y (polled reply) last.fits (there asked y ready.comm mid then starts agree_is_open new after (Ok reply) last) refl (answer_ends reply last.answered) run in
        let later = seen_from asked y ready.comm mid then starts agree_is_open new after (Ok reply) last (polled reply) last.poll in
        let decided = subst (λ l. IsDecision flag_meld l after.seen 0 k (polled reply)) same told.0 in
        let gave = subst (λ n. Gave after.seen 0 n r (flag_of r k)) ready.next (gave_lasts flag_meld limits then.seen after.seen later last.poll.linearizes.of.legal 0 x.next_agreement r (flag_of r k) agree_starts.1) in
        let before = before_last after last.poll.linearizes.of (all_from asked y ready.comm mid then starts agree_is_open new after (Ok reply) last (polled reply) last.poll) in
        let count = ready.count in (
          ap is_refused decided.reply_is,
          record {
            number = call_number flag_meld limits false last.at.seen after.seen last.own (Poll last.own.number 0) (polled reply) new run ∙ number_is asked y ready.comm mid then starts agree_is_open new after (Ok reply) last;
            x = record y { request = None };
            held = told.1 ∙ last_closed asked y ready.comm mid then starts agree_is_open new after (Ok reply) last;
            comm = ready.comm;
            next = refl;
            request = refl;
            count = omega (arith, length-append said (polled reply ∷ []), count);
            agreed = agreed_push after.seen (polled reply) before decided gave;
          },
        )

    pub agree_answered : (answer : Result (Polled FlagAnd) Refusal) (reply : Reply FlagAnd) → IsPolledOn flag_meld false 0 (local mid (view_at name then)) answer (local new (view_at name after)) → IsKeptReply answer reply → SaysAgree plan r k said new after.seen reply
    agree_answered (Ok answer) reply polls kept =
        inr (subst (λ w. IsFalse (is_refused w) × IsReady plan r (k + 1) new after.seen (said ++ w ∷ [])) (sym kept) (agreed_says answer (last_poll flag_meld false name 0 polls.0 mid then (Ok answer) new after starts.linearizes.of starts.linearizes.fits polls.1)))
    agree_answered (Err refusal) reply polls kept =
        subst (λ w. SaysAgree plan r k said new after.seen w) (sym kept.0) (inl (refl, poll_refused (Agree own.number 0 (flag_of r k)) (opened x (Some (OpenAgree k))) ready.comm mid then starts agree_is_open new after refusal (inl refl) kept.1 polls))

  module _ (all : k ≡ plan.rounds) (mid : Record) (then : Sight FlagAnd) (starts : Calls flag_meld false (Shrink own.number 0) (local own (view_at name at)) Started (local mid (view_at name then))) (new : Record) (after : Sight FlagAnd) where
    shrink_is_open : mid.held ≡ opened x (Some (OpenShrink k)) ∷ []
    shrink_is_open =
        shrink_opens flag_meld limits false at.seen then.seen own mid 0 x fits held_now (called_run flag_meld false name (Shrink own.number 0) own at Started mid then starts)
        ∙ (changed (λ y. opened y (Some (OpenShrink y.next_agreement))) ∙ ap (λ n. opened x (Some (OpenShrink n)) ∷ []) ready.next)

    -- the only communicator that may be made is number 1
    first_made : (n : ℕ) → 0 < n → slice_get (spawns after.seen) (n - 1) ≡ Some (0, k) → IsLegal flag_meld (limits_of plan) after.seen → n ≡ 1
    first_made n above made legal =
        let few = spawns_fit flag_meld (limits_of plan) after.seen legal (omega arith) in
        let there = in_list (spawns after.seen) (n - 1) (0, k) made in
        omega (arith, few, there, above)

    -- the reply of a shrink that was answered
    shrunk_says : (reply : Polled FlagAnd) (last : IsLast flag_meld false name 0 mid then (Ok reply) new after) → IsAnswered plan after.seen r new (said ++ polled reply ∷ [])
    shrunk_says reply last =
        let asked : Call FlagAnd = Shrink own.number 0 in
        let y : Held = opened x (Some (OpenShrink k)) in
        let run = called_run flag_meld false name (Poll last.own.number 0) last.own last.at (polled reply) new after last.poll in
        let told = shrink_tells flag_meld limits false last.at.seen after.seen last.own new 0 k y (polled reply) last.fits (there asked y ready.comm mid then starts shrink_is_open new after (Ok reply) last) refl (answer_ends reply last.answered) run in
        let legal = subst (λ l. IsLegal flag_meld l after.seen) same last.poll.linearizes.of.legal in
        let count = ready.count in
        let made = subst (λ n. IsMadeOf flag_meld (limits_of plan) after.seen 0 k n (polled reply)) (number_is asked y ready.comm mid then starts shrink_is_open new after (Ok reply) last) (subst (λ l. IsMadeOf flag_meld l after.seen 0 k last.own.number (polled reply)) same told.0) in
        let z = told.1.0 in
        let number : z.comm ≡ 1 = told.1.1 ∙ first_made told.0.comm told.0.above told.0.made legal in
        let held : new.held ≡ record y { request = None } ∷ z ∷ [] = told.1.2 ∙ ap (λ h. h ++ z ∷ []) (last_closed asked y ready.comm mid then starts shrink_is_open new after (Ok reply) last) in
        ends_so (polled reply) new after.seen
        (before_last after last.poll.linearizes.of (all_from asked y ready.comm mid then starts shrink_is_open new after (Ok reply) last (polled reply) last.poll))
        (inr (count ∙ all, subst (λ n. IsMadeOf flag_meld (limits_of plan) after.seen 0 n r (polled reply)) all made))
        (λ some. (z, ap (λ h. find (λ w. w.comm == 1) h) held ∙ (ap (λ n. cond (n == 1) (Some (record y { request = None })) (cond (z.comm == 1) (Some z) None)) ready.comm ∙ ap (λ n. cond (n == 1) (Some z) None) number)))

    pub shrink_answered : (answer : Result (Polled FlagAnd) Refusal) (reply : Reply FlagAnd) → IsPolledOn flag_meld false 0 (local mid (view_at name then)) answer (local new (view_at name after)) → IsKeptReply answer reply → IsAnswered plan after.seen r new (said ++ reply ∷ [])
    shrink_answered (Ok answer) reply polls kept =
        subst (λ w. IsAnswered plan after.seen r new (said ++ w ∷ [])) (sym kept) (shrunk_says answer (last_poll flag_meld false name 0 polls.0 mid then (Ok answer) new after starts.linearizes.of starts.linearizes.fits polls.1))
    shrink_answered (Err refusal) reply polls kept =
        subst (λ w. IsAnswered plan after.seen r new (said ++ w ∷ [])) (sym kept.0) (poll_refused (Shrink own.number 0) (opened x (Some (OpenShrink k))) ready.comm mid then starts shrink_is_open new after refusal (inr refl) kept.1 polls)

-- no reply to an agree that was answered is a refusal
pub agreed_whole : (plan : Plan) (h : History FlagAnd) (r : ℕ) (said : List (Reply FlagAnd)) → AreAgreed flag_meld (limits_of plan) h 0 (flag_of r) r said → list_any is_refused said ≡ false
agreed_whole plan h r said agreed = any_none is_refused said (λ n reply at. ap is_refused (agreed n reply at).0.reply_is)

-- the same of a rank that is ready, with one reply more
pub whole_push : (plan : Plan) (r k : ℕ) (own : Record) (h : History FlagAnd) (said replies : List (Reply FlagAnd)) (reply : Reply FlagAnd) → IsReady plan r k own h said → replies ≡ said ++ reply ∷ [] → list_any is_refused replies ≡ is_refused reply
whole_push plan r k own h said replies reply ready pushed =
    ap (list_any is_refused) pushed ∙ (any_push is_refused said reply ∙ ap (λ b. b || is_refused reply) (agreed_whole plan h r said ready.agreed))

-- by whether an agree was refused
pub says_true : (plan : Plan) (r k : ℕ) (said : List (Reply FlagAnd)) (new : Record) (h : History FlagAnd) (reply : Reply FlagAnd) → is_refused reply ≡ true → SaysAgree plan r k said new h reply → IsAnswered plan h r new (said ++ reply ∷ [])
says_true plan r k said new h reply is (inl refused) = refused.1
says_true plan r k said new h reply is (inr goes) = absurd (cc (is, goes.0))

pub says_false : (plan : Plan) (r k : ℕ) (said : List (Reply FlagAnd)) (new : Record) (h : History FlagAnd) (reply : Reply FlagAnd) → is_refused reply ≡ false → SaysAgree plan r k said new h reply → IsReady plan r (k + 1) new h (said ++ reply ∷ [])
says_false plan r k said new h reply is (inl refused) = absurd (cc (is, refused.0))
says_false plan r k said new h reply is (inr goes) = goes.1

-- a rank is ready by its own number
pub ready_own : {plan : Plan} {r k : ℕ} {own : Record} {h : History FlagAnd} {said : List (Reply FlagAnd)} → IsReady plan r k own h said → IsReady plan own.number k own h said
ready_own {plan} {r} {k} {own} {h} {said} ready = subst (λ n. IsReady plan n k own h said) (sym ready.number) ready

-- a new rank is ready for the first round
pub ready_first : (plan : Plan) (own : Record) (h : History FlagAnd) (said : List (Reply FlagAnd)) → own ≡ new_record (limits_of plan) own.number → said ≡ [] → IsReady plan own.number 0 own h said
ready_first plan own h said is none = subst (IsReady plan own.number 0 own h) (sym none) (record {
  number = refl;
  x = new_held 0 0 (first_ranks plan.ranks);
  held = ap (λ (w : Record). w.held) is;
  comm = refl;
  next = refl;
  request = refl;
  count = refl;
  agreed = λ k reply at. absurd (cc at);
})

-- what a rank was answered stays
pub answered_lasts : (plan : Plan) (h longer : History FlagAnd) → IsPrefix h longer → IsLegal flag_meld (limits_of plan) longer → (r : ℕ) (own : Record) (said : List (Reply FlagAnd)) → IsAnswered plan h r own said → IsAnswered plan longer r own said
answered_lasts plan h longer begins legal r own said was = record {
  answered = replies_last flag_meld (limits_of plan) h longer 0 plan.rounds (flag_of r) r said (omega arith) (omega arith) begins legal was.answered;
  holds = was.holds;
}

-- the gate may say true to a rank whose last reply is the only one that may be a refusal
pub let_last : (may_say : Turn → Bool → Type 0) (reply : Reply FlagAnd) (replies : List (Reply FlagAnd)) → list_any is_refused replies ≡ is_refused reply → WasLet may_say (reply ∷ []) → WasLet may_say replies
let_last may_say reply replies last is = record { start = is.start; poll = λ whole. is.poll (go (is_refused reply) (sym last ∙ whole)) }
  where
    go : (b : Bool) → b ≡ false → (b || false) ≡ false
    go true whole = whole
    go false whole = refl

-- both of its turns, where it isn't refused
pub let_both : (may_say : Turn → Bool → Type 0) (reply : Reply FlagAnd) → is_refused reply ≡ false → WasLet may_say (reply ∷ []) → may_say Turn.Contribute true × may_say Turn.Poll true
let_both may_say reply whole is = (is.start, is.poll (ap (λ b. b || false) whole))
