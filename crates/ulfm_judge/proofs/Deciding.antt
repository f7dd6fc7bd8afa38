-- The tests that compute decide what the definitions say: which event may be a call's own.
use Rattle.std.proofs.Common.{◌≡◌, ◌==◌, ◌&&◌, ℕ, Bool, true, false, not, List, Option, Some, None, is_some, refl, sym, ap, ap₂, subst, ◌∙◌, IsTrue, IsFalse}
use Rattle.std.specs.Bool.{Decides}
use Rattle.std.proofs.lemmas.Bool.Decides.{Decides-and, Decides-like, Decides-or}
use Rattle.ulfm_model.specs.declared.{call.Call.{Call}, call.Request.{Request}, contribution.Contribution.{Contribution}, event.Caller.{Caller}, event.Event.{Event}}
use Rattle.ulfm_model.specs.{Answers.{CallAdds, MarksDeclared, MayOwn, PollAdds, comm_of, refusal_of}, History.{has}, Records.{Held, Record, held_at}}
use Rattle.ulfm_numbers.proofs.Deciding.{eq_decides, false_decides, never_decides, none_decides, true_decides}
use Rattle.ulfm_model.specs.Traces.{IsLookDue, MayAdd, MayAddBy, Traced, Under, call_by, found_by, record_in}
use Rattle.ulfm_judge.specs.Tests.{due_test, own_call_test, own_by_test, adds_on_test, adds_test, arrives_test, makes_test, marks_test, own_test, poll_test, revokes_test, settles_test}

module _ {P : Type 0} (look : List ℕ) where
  pub marks_decides : (x : Held) (k : ℕ) (event : Event P) → Decides (marks_test look x k event) (MarksDeclared look x k event)
  marks_decides x k (Event.Fail r) = never_decides (λ m. cc (m.2))
  marks_decides x k (Event.Settle c l r given) = never_decides (λ m. cc (m.2))
  marks_decides x k (Event.Mark c l r mark) =
      Decides-like _ (λ p. (r, mark, ap₂ (λ d m. Event.Mark d m r mark) p.0 p.1.0, p.1.1.0, p.1.1.1))
      (λ q. let comm : c ≡ x.comm = cc (q.2) in let round : l ≡ k = cc (q.2) in let rank : q.0 ≡ r = cc (q.2) in (comm, (round, (rw (← rank) q.3, rw (← rank) q.4))))
      (Decides-and _ _ (eq_decides c x.comm) (Decides-and _ _ (eq_decides l k) (Decides-and _ _ (true_decides (has look r)) (true_decides (has x.group r)))))
  marks_decides x k (Event.Arrive c l r) = never_decides (λ m. cc (m.2))
  marks_decides x k (Event.Revoke c) = never_decides (λ m. cc (m.2))
  marks_decides x k (Event.Spawn j c l) = never_decides (λ m. cc (m.2))

pub makes_decides : {P : Type 0} (c k : ℕ) (event : Event P) → Decides (makes_test c k event) ((j : ℕ) × (event ≡ Event.Spawn j c k))
makes_decides c k (Event.Fail r) = never_decides (λ m. cc (m.1))
makes_decides c k (Event.Settle d l r given) = never_decides (λ m. cc (m.1))
makes_decides c k (Event.Mark d l r mark) = never_decides (λ m. cc (m.1))
makes_decides c k (Event.Arrive d l r) = never_decides (λ m. cc (m.1))
makes_decides c k (Event.Revoke d) = never_decides (λ m. cc (m.1))
makes_decides c k (Event.Spawn j d l) =
    Decides-like _ (λ p. (j, ap₂ (λ x y. Event.Spawn j x y) p.0 p.1)) (λ q. let comm : d ≡ c = cc (q.1) in let round : l ≡ k = cc (q.1) in (comm, round))
    (Decides-and _ _ (eq_decides d c) (eq_decides l k))

pub settles_decides : {P : Type 0} (c k r : ℕ) (event : Event P) → Decides (settles_test c k r event) ((given : Contribution P) × (event ≡ Event.Settle c k r given))
settles_decides c k r (Event.Fail s) = never_decides (λ m. cc (m.1))
settles_decides {P} c k r (Event.Settle d l s given) =
    Decides-like _ (λ p. (given, cc (p.0, p.1.0, p.1.1)))
    (λ q. let comm : d ≡ c = cc (q.1) in let round : l ≡ k = cc (q.1) in let rank : s ≡ r = cc (q.1) in (comm, (round, rank)))
    (Decides-and _ _ (eq_decides d c) (Decides-and _ _ (eq_decides l k) (eq_decides s r)))
settles_decides c k r (Event.Mark d l s mark) = never_decides (λ m. cc (m.1))
settles_decides c k r (Event.Arrive d l s) = never_decides (λ m. cc (m.1))
settles_decides c k r (Event.Revoke d) = never_decides (λ m. cc (m.1))
settles_decides c k r (Event.Spawn j d l) = never_decides (λ m. cc (m.1))

pub arrives_decides : {P : Type 0} (c k r : ℕ) (event : Event P) → Decides (arrives_test c k r event) (event ≡ Event.Arrive c k r)
arrives_decides c k r (Event.Fail s) = never_decides (λ m. cc m)
arrives_decides c k r (Event.Settle d l s given) = never_decides (λ m. cc m)
arrives_decides c k r (Event.Mark d l s mark) = never_decides (λ m. cc m)
arrives_decides c k r (Event.Arrive d l s) =
    Decides-like _ (λ p. cc (p.0, p.1.0, p.1.1))
    (λ q. let comm : d ≡ c = cc q in let round : l ≡ k = cc q in let rank : s ≡ r = cc q in (comm, (round, rank)))
    (Decides-and _ _ (eq_decides d c) (Decides-and _ _ (eq_decides l k) (eq_decides s r)))
arrives_decides c k r (Event.Revoke d) = never_decides (λ m. cc m)
arrives_decides c k r (Event.Spawn j d l) = never_decides (λ m. cc m)

pub revokes_decides : {P : Type 0} (c : ℕ) (event : Event P) → Decides (revokes_test c event) (event ≡ Event.Revoke c)
revokes_decides c (Event.Fail s) = never_decides (λ m. cc m)
revokes_decides c (Event.Settle d l s given) = never_decides (λ m. cc m)
revokes_decides c (Event.Mark d l s mark) = never_decides (λ m. cc m)
revokes_decides c (Event.Arrive d l s) = never_decides (λ m. cc m)
revokes_decides c (Event.Revoke d) = Decides-like (d == c) (λ e. ap Event.Revoke e) (λ e. cc e) (eq_decides d c)
revokes_decides c (Event.Spawn j d l) = never_decides (λ m. cc m)

module _ {P : Type 0} (look : List ℕ) where
  pub poll_decides : (x : Held) (request : Option Request) (event : Event P) → Decides (poll_test look x request event) (PollAdds look x request event)
  poll_decides x None event = never_decides (λ m. m)
  poll_decides x (Some (Request.Agree k)) event = marks_decides look x k event
  poll_decides x (Some (Request.Shrink k)) event = Decides-or _ _ (marks_decides look x k event) (makes_decides x.comm k event)
  poll_decides x (Some (Request.Barrier k)) event = never_decides (λ m. m)

  pub adds_decides : (r : ℕ) (x : Held) (asked : Call P) (event : Event P) → Decides (adds_test look r x asked event) (CallAdds look r x asked event)
  adds_decides r x (Call.Fail rank) event = never_decides (λ m. m)
  adds_decides r x (Call.GetFailed rank c) event = never_decides (λ m. m)
  adds_decides r x (Call.FailureGetAcked rank c) event = never_decides (λ m. m)
  adds_decides r x (Call.Ack rank c count) event = never_decides (λ m. m)
  adds_decides r x (Call.FailureAck rank c) event = never_decides (λ m. m)
  adds_decides r x (Call.Agree rank c value) event = settles_decides x.comm x.next_agreement r event
  adds_decides r x (Call.Shrink rank c) event = settles_decides x.comm x.next_agreement r event
  adds_decides r x (Call.Barrier rank c) event = arrives_decides x.comm x.next_barrier r event
  adds_decides r x (Call.Poll rank c) event = poll_decides x x.request event
  adds_decides r x (Call.Revoke rank c) event = revokes_decides x.comm event
  adds_decides r x (Call.IsRevoked rank c) event = never_decides (λ m. m)
  adds_decides r x (Call.Free rank c) event = never_decides (λ m. m)

  pub adds_on_decides : (r : ℕ) (held : Option Held) (asked : Call P) (event : Event P) → Decides (adds_on_test look r held asked event) ((x : Held) × (held ≡ Some x) × CallAdds look r x asked event)
  adds_on_decides r None asked event = never_decides (λ m. cc (m.1))
  adds_on_decides r (Some x) asked event =
      Decides-like _ (λ adds. (x, refl, adds)) (λ m. let same : m.0 ≡ x = cc (m.1) in subst (λ y. CallAdds look r y asked event) same m.2) (adds_decides r x asked event)

  pub own_decides : (old : Record) (asked : Call P) (event : Event P) → Decides (own_test look old asked event) (MayOwn look old asked event)
  own_decides old asked event =
      Decides-like _ (λ p. record { not_declared = p.0; not_refused = p.1.0; adds = p.1.1 }) (λ q. (q.not_declared, (q.not_refused, q.adds)))
      (Decides-and _ _ (false_decides (has look old.number)) (Decides-and _ _ (none_decides (refusal_of old asked)) (adds_on_decides old.number (held_at old (comm_of asked)) asked event)))

both_false : (a b d : Bool) → a ≡ false → b ≡ false → d ≡ (not a && (not b && d))
both_false true b d e f = absurd (cc e)
both_false false true d e f = absurd (cc f)
both_false false false d e f = refl

-- where the look didn't find the rank and its record doesn't refuse the call, what it holds decides
pub own_on : {P : Type 0} (look : List ℕ) (old : Record) (asked : Call P) (event : Event P) (held : Option Held) → has look old.number ≡ false → is_some (refusal_of old asked) ≡ false → held_at old (comm_of asked) ≡ held → adds_on_test look old.number held asked event ≡ own_test look old asked event
own_on look old asked event held calm free at =
    ap (λ o. adds_on_test look old.number o asked event) (sym at)
    ∙ both_false (has look old.number) (is_some (refusal_of old asked)) (adds_on_test look old.number (held_at old (comm_of asked)) asked event) calm free

-- where its call is open, whether a look is due is decided by the call's look and the rank's record
pub due_decides : {P : Type 0} (now : Traced P) (r : ℕ) (u : Under P) → call_by now (Caller.Rank r) ≡ Some u → Decides (due_test (record_in now r) u.look) (IsLookDue now r)
due_decides {P} now r u there = by_record (record_in now r) refl
  where
    by_record : (own : Option Record) → record_in now r ≡ own → Decides (due_test own u.look) (IsLookDue now r)
    by_record None is = never_decides (λ due. cc (is, due.has_record))
    by_record (Some own) is =
        Decides-like _ (λ p. record { call = u; is_open = there; first = p.0; own = own; has_record = is; in_use = p.1 })
        (λ due.
        let same : due.own ≡ own = cc (is, due.has_record) in
        let one : due.call ≡ u = cc (there, due.is_open) in
        (ap (λ (v : Under P). v.look) (sym one) ∙ due.first, subst (λ x. IsFalse x.refused) same due.in_use))
        (Decides-and _ _ (none_decides u.look) (false_decides own.refused))

pub own_by_decides : {P : Type 0} (now : Traced P) (by : Caller) (event : Event P) → Decides (own_by_test now by event) (MayAddBy now by event)
own_by_decides now Caller.Outside event = (λ e. tt, λ e. refl)
own_by_decides {P} now (Caller.Rank r) event = by_call (call_by now (Caller.Rank r)) refl (record_in now r) refl
  where
    by_call : (call : Option (Under P)) → call_by now (Caller.Rank r) ≡ call → (own : Option Record) → record_in now r ≡ own → Decides (own_call_test now call own event) (MayAdd now r event)
    by_call None is own has_own = never_decides (λ q. cc (is, q.is_open))
    by_call (Some u) is None has_own = never_decides (λ q. cc (has_own, q.has_record))
    by_call (Some u) is (Some own) has_own =
        Decides-like _ (λ p. record { call = u; is_open = is; looked = p.0; own = own; has_record = has_own; may_own = p.1 })
        (λ q.
        let same : q.call ≡ u = cc (is, q.is_open) in
        let mine : q.own ≡ own = cc (has_own, q.has_record) in
        (subst (λ (v : Under P). IsTrue (is_some v.look)) same q.looked, subst (λ (v : Under P). MayOwn (found_by now v) own v.asked event) same (subst (λ x. MayOwn (found_by now q.call) x q.call.asked event) mine q.may_own)))
        (Decides-and _ _ (true_decides (is_some u.look)) (own_decides (found_by now u) own u.asked event))
