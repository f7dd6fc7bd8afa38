-- A legal history declares only ranks of the world, and makes communicators only of its rounds.
use Rattle.std.proofs.Common.{◌≡◌, ◌⊎◌, inl, inr, ℕ, zero, suc, ◌+◌, ◌<◌, ◌≤◌, ◌==◌, ◌||◌, Bool, false, true, cond, not, List, [], ◌∷◌, ◌++◌, length, reverse, Option, Some, None, slice_get, refl, ap, sym, ◌∙◌, subst, arith, append-nil, length-append, nat_eq}
use Rattle.std.specs.List.{cons_option, list_any}
use Rattle.std.specs.Cmp.{nat_eq_equiv}
use Rattle.std.proofs.lemmas.Grind.{common_steps}
use Rattle.std.proofs.lemmas.Bool.{eqb-true, or_left, or_right}
use Rattle.std.proofs.lemmas.Bool.Decides.{nat_tests}
use Rattle.std.proofs.lemmas.List.Elements.{filter_map-append}
use Rattle.std.proofs.lemmas.List.Folds.{list_any-append}
use Rattle.std.proofs.lemmas.Map.Keys.{IsDistinct-push}
use Rattle.std.proofs.lemmas.Map.Steps.{length-le_from_distinct_below}
use Rattle.ulfm_model.specs.declared.{limits.Limits.{Limits}, event.Event.{Event}, event.Event.TheVariants.{Fail, Settle, Mark, Arrive, Revoke, Spawn}}
use Rattle.ulfm_model.specs.{History.{History, IsLegal, IsPlace, MayFollow, failures, first_ranks, has, members, members_after, members_by, says, spawns, without}, Words.{MayOpen}}
use Rattle.ulfm_model.specs.Terms.{group_among}
use Rattle.ulfm_words.specs.Places.{IsCell}
use Rattle.ulfm_model.proofs.{Histories.{by_events, spawns_push}, Lists.{has_filter}, OneEvent.{declared_by, made_by}, Spawned.{failures_distinct}}

module _ {P : Type 0} (meld : P → P → P) (limits : Limits) where
  -- each declared rank is one of the world's
  pub failures_below : (h : History P) → IsLegal meld limits h → (r : ℕ) → list_any (nat_eq r) (failures h) ≡ true → r < limits.ranks
  failures_below h legal =
      by_events meld limits (λ w. (r : ℕ) → list_any (nat_eq r) (failures w) ≡ true → r < limits.ranks) (λ r e. absurd (cc e))
      (λ w e lw q may r is. more w e.event may q r (subst (λ fs. list_any (nat_eq r) fs ≡ true) (filter_map-append (λ x. declared_by x.event) w (e ∷ [])) is)) h legal
    where
      more : (w : History P) (e : Event P) → MayFollow meld limits w e → ((r : ℕ) → list_any (nat_eq r) (failures w) ≡ true → r < limits.ranks)
          → (r : ℕ) → list_any (nat_eq r) (failures w ++ cons_option (declared_by e) []) ≡ true → r < limits.ranks
      more w (Fail rank) may q r is = let below = may.0 in grind (arith, common_steps, list_any-append (nat_eq r) (failures w) (rank ∷ []), q r)
      more w (Settle c k x given) may q r is = q r (subst (λ fs. list_any (nat_eq r) fs ≡ true) (append-nil (failures w)) is)
      more w (Mark c k x known) may q r is = q r (subst (λ fs. list_any (nat_eq r) fs ≡ true) (append-nil (failures w)) is)
      more w (Arrive c k x) may q r is = q r (subst (λ fs. list_any (nat_eq r) fs ≡ true) (append-nil (failures w)) is)
      more w (Revoke c) may q r is = q r (subst (λ fs. list_any (nat_eq r) fs ≡ true) (append-nil (failures w)) is)
      more w (Spawn j c k) may q r is = q r (subst (λ fs. list_any (nat_eq r) fs ≡ true) (append-nil (failures w)) is)

  -- no more ranks are declared than there are
  pub failures_le : (h : History P) → IsLegal meld limits h → length (failures h) ≤ limits.ranks
  failures_le h legal = length-le_from_distinct_below (failures h) limits.ranks (failures_distinct meld limits h legal) (failures_below h legal)

  found_in : (fs : List ℕ) (i r : ℕ) → slice_get fs i ≡ Some r → list_any (nat_eq r) fs ≡ true
  found_in [] i r e = absurd (cc e)
  found_in (x ∷ fs) zero r e = let same : x ≡ r = cc e in grind (arith, common_steps)
  found_in (x ∷ fs) (suc i) r e = grind (arith, common_steps, found_in fs i r e)

  -- each entry of the list is a rank of the world
  pub failure_below : (h : History P) (i r : ℕ) → IsLegal meld limits h → slice_get (failures h) i ≡ Some r → r < limits.ranks
  failure_below h i r legal e = failures_below h legal r (found_in (failures h) i r e)

  turned : (fs : List ℕ) (r : ℕ) → has fs r ≡ false → list_any (nat_eq r) fs ≡ false
  turned [] r e = refl
  turned (x ∷ fs) r e = grind (arith, nat_tests, common_steps, turned fs r)

  -- a full list has each rank
  pub full_has : (h : History P) (r : ℕ) → IsLegal meld limits h → r < limits.ranks → limits.ranks ≤ length (failures h) → has (failures h) r ≡ true
  full_has h r legal lt full = go (has (failures h) r) refl
    where
      go : (b : _) → has (failures h) r ≡ b → b ≡ true
      go true e = refl
      go false e =
          let distinct = IsDistinct-push nat_eq_equiv (failures h) r (failures_distinct meld limits h legal) (turned (failures h) r e) in
          let below = failures_below h legal in
          let few = length-le_from_distinct_below (failures h ++ r ∷ []) limits.ranks distinct (λ q t. grind (arith, list_any-append (nat_eq q) (failures h) (r ∷ []), below q, eqb-true q r)) in
          absurd (omega (arith, few, full, length-append (failures h) (r ∷ [])))

  made_push : (xs : List (ℕ × ℕ)) (m : ℕ × ℕ) (j : ℕ) (y : ℕ × ℕ) → slice_get (xs ++ m ∷ []) j ≡ Some y → (slice_get xs j ≡ Some y) ⊎ (m ≡ y)
  made_push [] m zero y e = inr (cc e)
  made_push [] m (suc j) y e = absurd (cc e)
  made_push (x ∷ xs) m zero y e = inl e
  made_push (x ∷ xs) m (suc j) y e = made_push xs m j y e

  -- a communicator is made of a round of one of the world's communicators
  pub made_below : (h : History P) → IsLegal meld limits h → (j c k : ℕ) → slice_get (spawns h) j ≡ Some (c, k) → (c < limits.comms) × (k < limits.rounds)
  made_below h legal =
      by_events meld limits (λ w. (j c k : ℕ) → slice_get (spawns w) j ≡ Some (c, k) → (c < limits.comms) × (k < limits.rounds)) (λ j c k e. absurd (cc e))
      (λ w e lw q may j c k is. more w e.event may q j c k (ap (λ xs. slice_get xs j) (sym (spawns_push w e)) ∙ is)) h legal
    where
      more : (w : History P) (e : Event P) → MayFollow meld limits w e → ((j c k : ℕ) → slice_get (spawns w) j ≡ Some (c, k) → (c < limits.comms) × (k < limits.rounds))
          → (j c k : ℕ) → slice_get (spawns w ++ cons_option (made_by e) []) j ≡ Some (c, k) → (c < limits.comms) × (k < limits.rounds)
      more w (Spawn i parent round) may q j c k is =
          elim (made_push (spawns w) (parent, round) j (c, k) is) [
            | inl was ↦ q j c k was
            | inr same ↦
                let one : parent ≡ c = ap (λ (m : ℕ × ℕ). m.0) same in
                let two : round ≡ k = ap (λ (m : ℕ × ℕ). m.1) same in
                (omega (arith, may.next, may.room, may.exists, one), omega (arith, may.in_rounds, two))
          ]
      more w (Fail rank) may q j c k is = q j c k (ap (λ xs. slice_get xs j) (sym (append-nil (spawns w))) ∙ is)
      more w (Settle c' k' x given) may q j c k is = q j c k (ap (λ xs. slice_get xs j) (sym (append-nil (spawns w))) ∙ is)
      more w (Mark c' k' x known) may q j c k is = q j c k (ap (λ xs. slice_get xs j) (sym (append-nil (spawns w))) ∙ is)
      more w (Arrive c' k' x) may q j c k is = q j c k (ap (λ xs. slice_get xs j) (sym (append-nil (spawns w))) ∙ is)
      more w (Revoke c') may q j c k is = q j c k (ap (λ xs. slice_get xs j) (sym (append-nil (spawns w))) ∙ is)

has_last : (xs : List ℕ) (n r : ℕ) → has (xs ++ n ∷ []) r ≡ true → (has xs r ≡ true) ⊎ (n ≡ r)
has_last [] n r e = inr (eqb-true n r (or_last (nat_eq n r) e))
  where
    or_last : (b : Bool) → (b || false) ≡ true → b ≡ true
    or_last true e = refl
    or_last false e = e
has_last (x ∷ xs) n r e = go (has_last xs n r) (nat_eq x r) refl e
  where
    go : (has (xs ++ n ∷ []) r ≡ true → (has xs r ≡ true) ⊎ (n ≡ r)) → (b : Bool) → nat_eq x r ≡ b → (b || has (xs ++ n ∷ []) r) ≡ true → (has (x ∷ xs) r ≡ true) ⊎ (n ≡ r)
    go more true same e = inl (or_left (nat_eq x r) (has xs r) same)
    go more false same e = elim (more e) [ inl there ↦ inl (or_right (nat_eq x r) (has xs r) there) | inr is ↦ inr is ]

first_below : (n r : ℕ) → has (first_ranks n) r ≡ true → r < n
first_below zero r e = absurd (cc e)
first_below (suc n) r e = elim (has_last (first_ranks n) n r e) [ inl there ↦ omega (arith, first_below n r there) | inr same ↦ omega (arith, same) ]

module _ {P : Type 0} (ranks : ℕ) where
  members_of : (past : History P) (c r : ℕ) → has (members_by ranks past c) r ≡ true → r < ranks
  members_of [] c r e = world (c == 0) e
    where
      world : (b : Bool) → has (cond b (first_ranks ranks) []) r ≡ true → r < ranks
      world true e = first_below ranks r e
      world false e = absurd (cc e)
  members_of (x ∷ past) c r e = after (λ d. members_of past d r) ((says x.event).makes) e
    where
      after : ((d : ℕ) → has (members_by ranks past d) r ≡ true → r < ranks) → (made : Option (ℕ × ℕ)) → has (members_after (members_by ranks past) (reverse past) made c) r ≡ true → r < ranks
      after more None e = more c e
      after more (Some made) e = split (c == length (spawns (reverse past)) + 1) e
        where
          split : (b : Bool) → has (cond b (without (members_by ranks past made.0) (group_among (members_by ranks past made.0) (reverse past) made.0 made.1)) (members_by ranks past c)) r ≡ true → r < ranks
          split true e = more made.0 (has_filter (λ x. not (has (group_among (members_by ranks past made.0) (reverse past) made.0 made.1) x)) (members_by ranks past made.0) r e)
          split false e = more c e

  -- members are ranks of the world
  pub members_below : (h : History P) (c r : ℕ) → has (members ranks h c) r ≡ true → r < ranks
  members_below h c r e = members_of (reverse h) c r e

module _ {P : Type 0} (meld : P → P → P) (limits : Limits) where
  -- there are no more communicators than there is room for
  pub spawns_below : (h : History P) → IsLegal meld limits h → 0 < limits.comms → length (spawns h) < limits.comms
  spawns_below h legal some =
      by_events meld limits (λ w. length (spawns w) < limits.comms) some
      (λ w e lw q may. subst (λ xs. length xs < limits.comms) (sym (spawns_push w e)) (more w e.event may q)) h legal
    where
      more : (w : History P) (e : Event P) → MayFollow meld limits w e → length (spawns w) < limits.comms → length (spawns w ++ cons_option (made_by e) []) < limits.comms
      more w (Spawn j c k) may q = omega (arith, length-append (spawns w) ((c, k) ∷ []), may.next, may.room)
      more w (Fail rank) may q = rw (append-nil (spawns w)) q
      more w (Settle c k x given) may q = rw (append-nil (spawns w)) q
      more w (Mark c k x known) may q = rw (append-nil (spawns w)) q
      more w (Arrive c k x) may q = rw (append-nil (spawns w)) q
      more w (Revoke c) may q = rw (append-nil (spawns w)) q

  -- a member's place in a round is one of the world's places
  pub place_within : (h : History P) (c k r : ℕ) → IsLegal meld limits h → MayOpen limits → IsPlace limits h c k r → IsCell limits c k r
  place_within h c k r legal may place =
      record {
        comm = omega (arith, place.exists, spawns_below h legal may.in_range.some_comms);
        round = place.in_rounds;
        rank = members_below limits.ranks h c r place.member;
      }
