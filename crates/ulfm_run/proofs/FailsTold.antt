-- A whole declaration, as lines.
use Rattle.std.proofs.Common.{◌≡◌, ℕ, ◌≤◌, Bool, true, false, List, [], ◌∷◌, ◌++◌, length, take, Some, None, refl, ap, sym, ◌∙◌, subst, arith, append-nil, length-append, inl, inr, IsTrue, if◌then◌else◌}
use Rattle.std.proofs.Math.Seq.{take-length}
use Rattle.std.proofs.lemmas.Bool.{eq-eqb}
use Rattle.ulfm_model.specs.declared.{call.Call.{Call}, event.Caller.{Caller}, event.Event.{Event}, refusal.Refusal.{Refusal}, reply.Reply.{Reply}}
use Rattle.ulfm_model.specs.{Answers.{AnswersFail}, History.{History, IsLegal, MayFollow, entries_by, failures, has}, Terms.{rests_on}}
use Rattle.ulfm_model.proofs.Histories.{legal_parts}
use Rattle.ulfm_words.specs.Steps.{Sight, Over, view_at}
use Rattle.ulfm_comm.specs.Fails.{Fails}
use Rattle.ulfm_model.specs.declared.{line.Line.{Line}, step_line.StepLine.{StepLine}}
use Rattle.ulfm_model.specs.{Follows.{Runs, fail_piece}, Traces.{MayCome, Traced, Under, after, after_reply, call_by, caller_of, listed, said_by, same_caller, view_at as point_at, with_event}}
use Rattle.ulfm_model.proofs.Callers.{find_change}
use Rattle.ulfm_run.specs.Failing.{TellsFail}
use Rattle.ulfm_lines.proofs.{Bystanders.{find_push}, Calls.{keeps_asked}}

module _ {P : Type 0} (meld : P → P → P) (name : Over P) (r : ℕ) (old new : Sight P) (now : Traced P) (limits : now.limits ≡ name.limits) (history : now.history ≡ old.seen) (free : call_by now Caller.Outside ≡ None) where
  abbrev u : Under P
  u = record { asked = Call.Fail r; begun = length now.history; look = None; own = [] }

  abbrev begun : Traced P
  begun = after now (Line.Called (Call.Fail r) false)

  call_is : call_by begun Caller.Outside ≡ Some u
  call_is = find_push (λ (v : Under P). same_caller (caller_of v) Caller.Outside) now.calls u free refl

  abbrev Tells : Reply P → Type 0
  Tells reply = Runs meld now (StepLine.Failed r ∷ []) (fail_piece r (length new.seen) reply) (said_by now (fail_piece r (length new.seen) reply)) × ((said_by now (fail_piece r (length new.seen) reply)).history ≡ new.seen)

  -- the rank is declared
  module _ (added : old.seen ++ record { by = Caller.Outside; event = Event.Fail r } ∷ [] ≡ new.seen) (legal : IsLegal meld name.limits new.seen) (is_declared : IsTrue (has (failures new.seen) r)) where
    may_follow : MayFollow meld now.limits now.history (Event.Fail r)
    may_follow =
        let before = legal_parts meld name.limits old.seen (record { by = Caller.Outside; event = Event.Fail r } ∷ []) (subst (IsLegal meld name.limits) (sym added) legal) in
        subst (λ l. MayFollow meld l now.history (Event.Fail r)) (sym limits) (subst (λ h. MayFollow meld name.limits h (Event.Fail r)) (sym history) before.1.0)

    abbrev told : Traced P
    told = after begun (Line.Happened Caller.Outside (Some (Event.Fail r)))

    history_then : told.history ≡ new.seen
    history_then = ap (λ h. h ++ record { by = Caller.Outside; event = Event.Fail r } ∷ []) history ∙ added

    u_then : with_event (Event.Fail r) u ≡ record u { own = Event.Fail r ∷ [] }
    u_then = ap (λ (b : Bool). if b then record u { own = Event.Fail r ∷ [] } else u) (eq-eqb r r refl)

    call_then : call_by told Caller.Outside ≡ Some (record u { own = Event.Fail r ∷ [] })
    call_then = find_change Caller.Outside (with_event (Event.Fail r)) (keeps_asked (Event.Fail r)) begun.calls u call_is ∙ ap Some u_then

    may_reply : MayCome meld told [] (Line.Replied Caller.Outside (length new.seen) (Some Reply.Declared))
    may_reply =
        let whole : take (length new.seen) told.history ≡ new.seen = ap (take (length new.seen)) history_then ∙ take-length new.seen in
        let as_long : length told.history ≡ length new.seen = ap length history_then in
        let longer = length-append now.history (record { by = Caller.Outside; event = Event.Fail r } ∷ []) in
        record {
          call = record u { own = Event.Fail r ∷ [] };
          is_open = call_then;
          since_begin = omega (arith, as_long, longer);
          by_now = omega (arith, as_long);
          answers = inl (refl, refl, subst (λ h. IsTrue (has (failures h) r)) (sym whole) is_declared);
          lists = refl;
        }

    pub runs_declared : Tells Reply.Declared
    runs_declared = (
      record {
        legal = (free, ((may_follow, tt), (may_reply, tt)));
        follows = (fail_piece r (length new.seen) Reply.Declared, [], refl, (length new.seen, Reply.Declared, refl), refl);
        new_is = refl;
      },
      ap (λ c. (after_reply told Caller.Outside (length new.seen) Reply.Declared c).history) call_then ∙ history_then,
    )

  -- nothing was added
  module _ (same : new.seen ≡ old.seen) where
    history_same : now.history ≡ new.seen
    history_same = history ∙ sym same

    may_answer : (reply : Reply P) → AnswersFail begun.limits (point_at begun u (length new.seen)) r reply → [] ≡ listed now.limits.ranks (take (length new.seen) now.history) 0 reply
        → MayCome meld begun [] (Line.Replied Caller.Outside (length new.seen) (Some reply))
    may_answer reply answers lists =
        let as_long : length now.history ≡ length new.seen = ap length history_same in
        record { call = u; is_open = call_is; since_begin = omega (arith, as_long); by_now = omega (arith, as_long); answers = answers; lists = lists }

    history_left : (reply : Reply P) → (after begun (Line.Replied Caller.Outside (length new.seen) (Some reply))).history ≡ new.seen
    history_left reply = ap (λ c. (after_reply begun Caller.Outside (length new.seen) reply c).history) call_is ∙ history_same

    pub runs_already : IsTrue (has (failures new.seen) r) → Tells Reply.AlreadyFailed
    runs_already is_declared =
        let whole : take (length new.seen) now.history ≡ new.seen = ap (take (length new.seen)) history_same ∙ take-length new.seen in
        let answers : AnswersFail begun.limits (point_at begun u (length new.seen)) r Reply.AlreadyFailed = inr (inl (refl, refl, subst (λ h. IsTrue (has (failures h) r)) (sym whole) is_declared)) in (
          record {
            legal = (free, (may_answer Reply.AlreadyFailed answers refl, tt));
            follows = (fail_piece r (length new.seen) Reply.AlreadyFailed, [], refl, (length new.seen, Reply.AlreadyFailed, refl), refl);
            new_is = refl;
          },
          history_left Reply.AlreadyFailed,
        )

    pub runs_unknown : name.limits.ranks ≤ r → Tells (Reply.Refused Refusal.NoSuchRank)
    runs_unknown out =
        let answers : AnswersFail begun.limits (point_at begun u (length new.seen)) r (Reply.Refused Refusal.NoSuchRank) = inr (inr (refl, refl, subst (λ l. l.ranks ≤ r) (sym limits) out)) in (
          record {
            legal = (free, (may_answer (Reply.Refused Refusal.NoSuchRank) answers refl, tt));
            follows = (fail_piece r (length new.seen) (Reply.Refused Refusal.NoSuchRank), [], refl, (length new.seen, Reply.Refused Refusal.NoSuchRank, refl), refl);
            new_is = refl;
          },
          history_left (Reply.Refused Refusal.NoSuchRank),
        )

module _ {P : Type 0} (meld : P → P → P) (name : Over P) (r : ℕ) (old : Sight P) (reply : Reply P) (new : Sight P) (fails : Fails meld true r (view_at name old) reply (view_at name new)) where
  abbrev so_far : List (Event P) → History P
  so_far own = old.seen ++ entries_by Caller.Outside own

  since : so_far fails.run.span.own ≡ new.seen
  since =
      let span = fails.run.span in
      ap (λ h. h ++ entries_by Caller.Outside span.own) (sym fails.run.no_look) ∙ (ap (λ s. span.look ++ s) (sym (span.did.quiet refl)) ∙ span.did.goes_on)

  at_end : IsTrue (has (failures fails.run.span.point) r) → IsTrue (has (failures new.seen) r)
  at_end is = subst (λ h. IsTrue (has (failures h) r)) fails.at_end is

  nothing_added : fails.run.span.own ≡ [] → new.seen ≡ old.seen
  nothing_added is = sym since ∙ (ap so_far is ∙ append-nil old.seen)

  module _ (now : Traced P) (limits : now.limits ≡ name.limits) (history : now.history ≡ old.seen) (free : call_by now Caller.Outside ≡ None) where
    by_answer : AnswersFail name.limits (rests_on fails.run.span) r reply → Tells meld name r old new now limits history free reply
    by_answer (inl (is, own, declared)) =
        subst (Tells meld name r old new now limits history free) (sym is)
        (runs_declared meld name r old new now limits history free (ap so_far (sym own) ∙ since) fails.run.span.legal (at_end declared))
    by_answer (inr (inl (is, own, declared))) =
        subst (Tells meld name r old new now limits history free) (sym is) (runs_already meld name r old new now limits history free (nothing_added own) (at_end declared))
    by_answer (inr (inr (is, own, out))) =
        subst (Tells meld name r old new now limits history free) (sym is) (runs_unknown meld name r old new now limits history free (nothing_added own) out)

pub tells_fail : {P : Type 0} (meld : P → P → P) (name : Over P) (r : ℕ) (old : Sight P) (reply : Reply P) (new : Sight P) → Fails meld true r (view_at name old) reply (view_at name new) → TellsFail meld r (view_at name old) reply (view_at name new)
tells_fail meld name r old reply new fails = λ now limits history free. by_answer meld name r old reply new fails now limits history free fails.run.answer
