-- Spawned communicators: whose survivors they are. And failures: nobody is declared twice.
use Rattle.std.proofs.Common.{◌≡◌, ◌⊎◌, ℕ, zero, suc, ◌+◌, ◌<◌, List, [], ◌∷◌, ◌++◌, length, Some, slice_get, refl, ap, ap₂, sym, ◌∙◌, subst, arith, append-nil, nat_eq, inl, inr, IsTrue}
use Rattle.std.specs.List.{cons_option, IsDistinct}
use Rattle.std.proofs.lemmas.List.Elements.{filter_map-append}
use Rattle.ulfm_model.specs.declared.limits.Limits.{Limits}
use Rattle.ulfm_model.specs.declared.event.Caller.{Caller}
use Rattle.ulfm_model.specs.declared.event.Entry.{Entry}
use Rattle.ulfm_model.specs.declared.event.Event.{Event}
use Rattle.ulfm_model.specs.declared.event.Event.TheVariants.{Fail, Settle, Mark, Arrive, Revoke, Spawn}
use Rattle.ulfm_model.specs.History.{without}
use Rattle.ulfm_model.specs.History.{History, failures, spawns}
use Rattle.ulfm_model.proofs.OneEvent.{declared_by, made_by}
use Rattle.ulfm_model.specs.History.{Decision, Exists, IsLegal, MayFollow, MaySpawn, decision, is_decided, members}
use Rattle.ulfm_model.proofs.Lists.{distinct_push, in_list, none_distinct}
use Rattle.ulfm_model.proofs.Histories.{by_events, exists_push, members_made, members_same, spawns_push}
use Rattle.ulfm_model.proofs.Decisions.{decision_push}

module _ {P : Type 0} (meld : P → P → P) (limits : Limits) where
  abbrev ranks : ℕ
  ranks = limits.ranks

  -- what is known of communicator j + 1, made of round k of c
  pub record IsMade (h : History P) (j c k : ℕ) : Type 0 where
    pub exists : Exists h c
    pub decided : IsTrue (is_decided ranks h c k)
    pub group : members ranks h (j + 1) ≡ without (members ranks h c) (decision meld ranks h c k).failed

  made_push : (h : History P) (e : Entry P) (j c k : ℕ) → IsLegal meld limits h → MayFollow meld limits h e.event → j < length (spawns h) → IsMade h j c k → IsMade (h ++ e ∷ []) j c k
  made_push h e j c k legal may below made =
      let next = decision_push meld limits h e c k legal made.exists made.decided may in
      let own : members ranks (h ++ e ∷ []) (j + 1) ≡ members ranks h (j + 1) = members_same ranks h e (j + 1) (omega arith) in
      let parent : members ranks (h ++ e ∷ []) c ≡ members ranks h c = members_same ranks h e c made.exists in
      record {
        exists = exists_push h e c made.exists;
        decided = next.0;
        group = own ∙ (made.group ∙ sym (ap₂ (λ ms (d : Decision P). without ms d.failed) parent next.1));
      }

  made_new : (h : History P) (by : Caller) (j c k : ℕ) → IsLegal meld limits h → MaySpawn meld limits h j c k → (n : ℕ) → j ≡ n + 1 → IsMade (h ++ record { by = by; event = Spawn j c k } ∷ []) n c k
  made_new h by j c k legal may n is =
      let e : Entry P = record { by = by; event = Spawn j c k } in
      let next = decision_push meld limits h e c k legal may.exists may.decided may in
      let parent : members ranks (h ++ e ∷ []) c ≡ members ranks h c = members_same ranks h e c may.exists in
      record {
        exists = exists_push h e c may.exists;
        decided = next.0;
        group = members_made ranks h e (n + 1) c k refl (omega (arith, may.next, is)) ∙ sym (ap₂ (λ ms (d : Decision P). without ms d.failed) parent next.1);
      }

  -- what stands in a list with one more element stood there before, or is that element
  pub at_push : (xs : List (ℕ × ℕ)) (x y : ℕ × ℕ) (n : ℕ) → slice_get (xs ++ x ∷ []) n ≡ Some y → ((n < length xs) × (slice_get xs n ≡ Some y)) ⊎ ((n ≡ length xs) × (x ≡ y))
  at_push [] x y zero e = inr (refl, cc)
  at_push [] x y (suc n) e = absurd (cc e)
  at_push (z ∷ xs) x y zero e = inl (omega arith, e)
  at_push (z ∷ xs) x y (suc n) e = elim (at_push xs x y n e) [ inl h ↦ inl (omega (arith, h.0), h.1) | inr h ↦ inr (omega (arith, h.0), h.1) ]

  unmade : (w : History P) (e : Entry P) → IsLegal meld limits w → ((j c k : ℕ) → slice_get (spawns w) j ≡ Some (c, k) → IsMade w j c k) → MayFollow meld limits w e.event → (j c k : ℕ)
      → slice_get (spawns w ++ []) j ≡ Some (c, k) → IsMade (w ++ e ∷ []) j c k
  unmade w e legal q may j c k at =
      let was : slice_get (spawns w) j ≡ Some (c, k) = ap (λ xs. slice_get xs j) (sym (append-nil (spawns w))) ∙ at in
      made_push w e j c k legal may (in_list (spawns w) j (c, k) was) (q j c k was)

  step : (w : History P) (by : Caller) (ev : Event P) → IsLegal meld limits w → ((j c k : ℕ) → slice_get (spawns w) j ≡ Some (c, k) → IsMade w j c k) → MayFollow meld limits w ev → (j c k : ℕ)
      → slice_get (spawns w ++ cons_option (made_by ev) []) j ≡ Some (c, k) → IsMade (w ++ record { by = by; event = ev } ∷ []) j c k
  step w by (Spawn i parent round) legal q may j c k at =
      elim (at_push (spawns w) (parent, round) (c, k) j at) [
        | inl h ↦ made_push w (record { by = by; event = Spawn i parent round }) j c k legal may h.0 (q j c k h.1)
        | inr h ↦
            let Q : ℕ × ℕ → Type 0 = λ p. IsMade (w ++ record { by = by; event = Spawn i parent round } ∷ []) j p.0 p.1 in
            subst Q h.1 (made_new w by i parent round legal may j (omega (arith, may.next, h.0)))
      ]
  step w by (Fail rank) legal q may j c k at = unmade w (record { by = by; event = Fail rank }) legal q may j c k at
  step w by (Settle comm round rank given) legal q may j c k at = unmade w (record { by = by; event = Settle comm round rank given }) legal q may j c k at
  step w by (Mark comm round rank known) legal q may j c k at = unmade w (record { by = by; event = Mark comm round rank known }) legal q may j c k at
  step w by (Arrive comm round rank) legal q may j c k at = unmade w (record { by = by; event = Arrive comm round rank }) legal q may j c k at
  step w by (Revoke comm) legal q may j c k at = unmade w (record { by = by; event = Revoke comm }) legal q may j c k at

  -- the members of a spawned communicator are its parent's, but for those whom the round's decision leaves out
  pub members_of_spawned : (h : History P) → IsLegal meld limits h → (j c k : ℕ) → slice_get (spawns h) j ≡ Some (c, k) → IsMade h j c k
  members_of_spawned h legal =
      by_events meld limits (λ w. (j c k : ℕ) → slice_get (spawns w) j ≡ Some (c, k) → IsMade w j c k) (λ j c k e. absurd (cc e))
      (λ w e lw q may j c k is. step w e.by e.event lw q may j c k (ap (λ xs. slice_get xs j) (sym (spawns_push w e)) ∙ is)) h legal

  -- the list of failures has no repeats
  pub failures_distinct : (h : History P) → IsLegal meld limits h → IsDistinct nat_eq (failures h)
  failures_distinct h legal =
      by_events meld limits (λ w. IsDistinct nat_eq (failures w)) (none_distinct nat_eq)
      (λ w e lw q may. subst (IsDistinct nat_eq) (sym (filter_map-append (λ x. declared_by x.event) w (e ∷ []))) (more w e.event may q)) h legal
    where
      more : (w : History P) (ev : Event P) → MayFollow meld limits w ev → IsDistinct nat_eq (failures w) → IsDistinct nat_eq (failures w ++ cons_option (declared_by ev) [])
      more w (Fail r) may q = distinct_push nat_eq (failures w) r q may.1
      more w (Settle c k r given) may q = subst (IsDistinct nat_eq) (sym (append-nil (failures w))) q
      more w (Mark c k r known) may q = subst (IsDistinct nat_eq) (sym (append-nil (failures w))) q
      more w (Arrive c k r) may q = subst (IsDistinct nat_eq) (sym (append-nil (failures w))) q
      more w (Revoke c) may q = subst (IsDistinct nat_eq) (sym (append-nil (failures w))) q
      more w (Spawn j c k) may q = subst (IsDistinct nat_eq) (sym (append-nil (failures w))) q
