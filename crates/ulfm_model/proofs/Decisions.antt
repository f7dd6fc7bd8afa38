-- Decided rounds: what may stand at a place, and why no later event changes a decision.
use Rattle.std.proofs.Common.{◌≡◌, ℕ, ◌≤◌, ◌-◌, slice_get, Bool, true, false, not, ◌&&◌, ◌==◌, List, [], ◌∷◌, ◌++◌, map, length, take, Option, Some, None, is_some, refl, ap, ap₂, sym, ◌∙◌, subst, arith, append-nil, length-append, filter, filter_map, IsTrue, if◌then◌else◌}
use Rattle.std.specs.Prelude.{⊤}
use Rattle.std.specs.List.{list_any, list_all, cons_option, AllByRecursion}
use Rattle.std.proofs.lemmas.List.Elements.{filter_map-append, filter-append, filter_agree}
use Rattle.std.proofs.lemmas.List.{take-append-le}
use Rattle.std.proofs.lemmas.Bool.{and_parts, eqb-true}
use mathlib.Core.List.{IsPrefix}
use Rattle.ulfm_model.specs.declared.contribution.Contribution.{Contribution}
use Rattle.ulfm_laws.specs.Bodies.{body_unit, body_meld}
use Rattle.ulfm_laws.specs.Combined.{combined}
use Rattle.ulfm_model.specs.declared.limits.Limits.{Limits}
use Rattle.ulfm_model.specs.declared.event.Entry.{Entry}
use Rattle.ulfm_model.specs.declared.event.Event.{Event}
use Rattle.ulfm_model.specs.declared.event.Event.TheVariants.{Fail, Settle, Mark, Arrive, Revoke, Spawn}
use Rattle.ulfm_model.specs.declared.contribution.Slot.{Slot}
use Rattle.ulfm_model.specs.declared.contribution.Slot.TheVariants.{Given, Mark as Marked}
use Rattle.ulfm_model.specs.History.{has}
use Rattle.ulfm_model.specs.History.{History, failures, slot}
use Rattle.ulfm_model.proofs.OneEvent.{put_by, declared_by}
use Rattle.ulfm_model.specs.History.{Decision, Exists, IsLegal, IsPlace, MayFollow, body_of, contribution_of, decided_by, decision, failed, failed_among, is_decided, known_of, members, round, round_among, union_of}
use Rattle.ulfm_model.specs.Terms.{lacks_one}
use Rattle.ulfm_model.proofs.Lists.{none_first, filter_map_same, all_some, each_filter_map, each_filter, filter_map_each, each_from, any_same, any_none, each_always, filter_none, not_in_take, not_in_filter, in_list, get_stays}
use Rattle.ulfm_model.proofs.Histories.{by_events, stays, exists_push, members_same, slot_first, slot_push, slot_remains}

module _ {P : Type 0} (meld : P → P → P) (limits : Limits) where
  abbrev ranks : ℕ
  ranks = limits.ranks

  -- a mark or a contribution names no more than the n failures that there are
  abbrev pub Fits : ℕ → Slot P → Type 0
  Fits n s = known_of s ≤ n

  -- the last failure that a mark names is the marked rank itself
  abbrev pub Names : List ℕ → ℕ → Slot P → Type 0
  Names F r (Marked mark) = slice_get F (mark.known.count - 1) ≡ Some r
  Names F r (Given given) = ⊤

  -- what is known of a settled place: where it is, and that it names failures which there are
  pub record Stands (h : History P) (c k r : ℕ) (s : Slot P) : Type 0 where
    pub place : IsPlace limits h c k r
    pub fits : Fits (length (failed ranks h c)) s
    pub names : Names (failed ranks h c) r s

  -- no place is settled twice
  abbrev pub AtMostOnce : History P → Type 0
  AtMostOnce h = (c k r : ℕ) → length (filter_map (λ e. put_by c k r e.event) h) ≤ 1

  here_of : (c k r comm round rank : ℕ) → ((comm == c) && (round == k) && (rank == r)) ≡ true → (comm ≡ c) × (round ≡ k) × (rank ≡ r)
  here_of c k r comm round rank is =
      let both = and_parts ((comm == c) && (round == k)) (rank == r) is in
      let first = and_parts (comm == c) (round == k) both.0 in
      (eqb-true comm c first.0, eqb-true round k first.1, eqb-true rank r both.1)

  chosen : {A : Type 0} (b : Bool) (x y : A) → (if b then Some x else None) ≡ Some y → (b ≡ true) × (x ≡ y)
  chosen true x y e = (refl, cc)
  chosen false x y e = absurd cc

  -- an allowed settlement finds its place empty
  pub put_stands : (h : History P) (e : Event P) (c k r : ℕ) (s : Slot P) → MayFollow meld limits h e → put_by c k r e ≡ Some s → (slot h c k r ≡ None) × Stands h c k r s
  put_stands h (Fail rank) c k r s may is = absurd (cc is)
  put_stands h (Settle comm round rank given) c k r s may is =
      let parts = chosen ((comm == c) && (round == k) && (rank == r)) (Given given) s is in
      let at = here_of c k r comm round rank parts.0 in
      rw (← at.0, ← at.1, ← at.2) (rw (← parts.1) (may.1, record { place = may.0; fits = may.2; names = tt }))
  put_stands h (Mark comm round rank known) c k r s may is =
      let parts = chosen ((comm == c) && (round == k) && (rank == r)) (Marked known) s is in
      let at = here_of c k r comm round rank parts.0 in
      rw (← at.0, ← at.1, ← at.2) (rw (← parts.1) (may.1, record { place = may.0; fits = omega (arith, in_list (failed ranks h comm) (known.known.count - 1) rank may.2); names = may.2 }))
  put_stands h (Arrive comm round rank) c k r s may is = absurd (cc is)
  put_stands h (Revoke comm) c k r s may is = absurd (cc is)
  put_stands h (Spawn comm parent round) c k r s may is = absurd (cc is)

  -- one more event adds to a failed group at most a declared member
  pub failed_push : (h : History P) (e : Entry P) (c : ℕ) → Exists h c → MayFollow meld limits h e.event
      → failed ranks (h ++ e ∷ []) c ≡ failed ranks h c ++ filter (has (members ranks h c)) (cons_option (declared_by e.event) [])
  failed_push h e c here may =
      let same : members ranks (h ++ e ∷ []) c ≡ members ranks h c = members_same ranks h e c here in
      ap (λ ms. failed_among ms (h ++ e ∷ [])) same
      ∙ (ap (filter (has (members ranks h c))) (filter_map-append (λ x. declared_by x.event) h (e ∷ []))
      ∙ filter-append (has (members ranks h c)) (failures h) (cons_option (declared_by e.event) []))

  names_more : (F X : List ℕ) (r : ℕ) (s : Slot P) → Names F r s → Names (F ++ X) r s
  names_more F X r (Marked mark) names = get_stays F X (mark.known.count - 1) r names
  names_more F X r (Given given) names = tt

  stands_push : (h : History P) (e : Entry P) (c k r : ℕ) (s : Slot P) → MayFollow meld limits h e.event → Stands h c k r s → Stands (h ++ e ∷ []) c k r s
  stands_push h e c k r s may stands =
      let here = stands.place.exists in
      let same : members ranks (h ++ e ∷ []) c ≡ members ranks h c = members_same ranks h e c here in
      let longer : length (failed ranks h c) ≤ length (failed ranks (h ++ e ∷ []) c) =
      omega (arith, ap length (failed_push h e c here may) ∙ length-append (failed ranks h c) (filter (has (members ranks h c)) (cons_option (declared_by e.event) []))) in
      record {
        place = record { exists = exists_push h e c here; member = ap (λ ms. has ms r) same ∙ stands.place.member; in_rounds = stands.place.in_rounds };
        fits = omega (arith, longer, stands.fits);
        names = subst (λ F. Names F r s) (sym (failed_push h e c here may)) (names_more (failed ranks h c) (filter (has (members ranks h c)) (cons_option (declared_by e.event) [])) r s stands.names);
      }

  -- what stands in a legal history was once allowed, and still fits
  pub slot_stands : (h : History P) → IsLegal meld limits h → (c k r : ℕ) (s : Slot P) → slot h c k r ≡ Some s → Stands h c k r s
  slot_stands h legal =
      by_events meld limits (λ w. (c k r : ℕ) (s : Slot P) → slot w c k r ≡ Some s → Stands w c k r s) (λ c k r s e. absurd (cc e))
      (λ w e lw q may c k r s is. stands_push w e c k r s may (before w e c k r s q may is (slot w c k r) refl)) h legal
    where
      before : (w : History P) (e : Entry P) (c k r : ℕ) (s : Slot P) → ((c k r : ℕ) (s : Slot P) → slot w c k r ≡ Some s → Stands w c k r s) → MayFollow meld limits w e.event
          → slot (w ++ e ∷ []) c k r ≡ Some s → (o : Option (Slot P)) → slot w c k r ≡ o → Stands w c k r s
      before w e c k r s q may is None was = (put_stands w e.event c k r s may (sym (slot_push w e c k r was) ∙ is)).1
      before w e c k r s q may is (Some t) was =
          let still = slot_remains w e c k r t was in
          let same : t ≡ s = cc (still, is) in subst (Stands w c k r) same (q c k r t was)

  -- in a legal history no place is settled twice
  pub settled_once : (h : History P) → IsLegal meld limits h → AtMostOnce h
  settled_once h legal =
      by_events meld limits AtMostOnce (λ c k r. omega arith) (λ w e lw q may c k r. step w e c k r (q c k r) may (put_by c k r e.event) refl) h legal
    where
      step : (w : History P) (e : Entry P) (c k r : ℕ) → length (filter_map (λ x. put_by c k r x.event) w) ≤ 1 → MayFollow meld limits w e.event
          → (o : Option (Slot P)) → put_by c k r e.event ≡ o → length (filter_map (λ x. put_by c k r x.event) (w ++ e ∷ [])) ≤ 1
      step w e c k r le may o is =
          let all : filter_map (λ x. put_by c k r x.event) (w ++ e ∷ []) ≡ filter_map (λ x. put_by c k r x.event) w ++ cons_option o [] =
          filter_map-append (λ x. put_by c k r x.event) w (e ∷ []) ∙ ap (λ p. filter_map (λ x. put_by c k r x.event) w ++ cons_option p []) is in
          rw all (last o is)
        where
          last : (o : Option (Slot P)) → put_by c k r e.event ≡ o → length (filter_map (λ x. put_by c k r x.event) w ++ cons_option o []) ≤ 1
          last None is = rw (append-nil (filter_map (λ x. put_by c k r x.event) w)) le
          last (Some s) is = rw (none_first (filter_map (λ x. put_by c k r x.event) w) (sym (slot_first w c k r) ∙ (put_stands w e.event c k r s may is).0)) (omega arith)

  -- an event changes nothing of a round whose members are all settled
  settled_push : (h : History P) (e : Entry P) (c k : ℕ) (ms : List ℕ) → list_all (λ r. is_some (slot h c k r)) ms ≡ true → round_among ms (h ++ e ∷ []) c k ≡ round_among ms h c k
  settled_push h e c k ms all = filter_map_same (slot h c k) (slot (h ++ e ∷ []) c k) (λ r s is. slot_remains h e c k r s is) ms all

  -- the rank that an event declares is not in the failed group before it
  newly : (h : History P) (e : Event P) (F : List ℕ) (p : ℕ → Bool) → MayFollow meld limits h e → ((r : ℕ) → has (failures h) r ≡ false → has F r ≡ false) → AllByRecursion (λ r. has F r ≡ false) (filter p (cons_option (declared_by e) []))
  newly h (Fail r) F p may out = each_filter p (λ x. has F x ≡ false) (r ∷ []) (out r may.1, tt)
  newly h (Settle comm round rank given) F p may out = tt
  newly h (Mark comm round rank known) F p may out = tt
  newly h (Arrive comm round rank) F p may out = tt
  newly h (Revoke comm) F p may out = tt
  newly h (Spawn comm parent round) F p may out = tt

  -- later failures don't change which ranks the settled places name
  union_more : (F X : List ℕ) (L : List (Slot P)) → AllByRecursion (Fits (length F)) L → AllByRecursion (λ r. has F r ≡ false) X
      → union_of (F ++ X) L ≡ union_of F L
  union_more F X L fits out =
      let longer : ℕ → Bool = λ r. list_any (λ s. has (take (known_of s) (F ++ X)) r) L in
      let test : ℕ → Bool = λ r. list_any (λ s. has (take (known_of s) F) r) L in
      let same : (r : ℕ) → longer r ≡ test r =
      λ r. any_same (λ s. has (take (known_of s) F) r) (λ s. has (take (known_of s) (F ++ X)) r) L
      (each_from (Fits (length F)) (λ s. has (take (known_of s) (F ++ X)) r ≡ has (take (known_of s) F) r) (λ s f. ap (λ w. has w r) (take-append-le (known_of s) F X f)) L fits) in
      let none : filter test X ≡ [] =
      filter_none test X (each_from (λ r. has F r ≡ false) (λ r. test r ≡ false) (λ r o. any_none (λ s. has (take (known_of s) F) r) L (each_always (λ s. has (take (known_of s) F) r ≡ false) (λ s. not_in_take (known_of s) F r o) L)) X out) in
      filter_agree longer test same (F ++ X) ∙ (filter-append test F X ∙ (ap (λ w. filter test F ++ w) none ∙ append-nil (filter test F)))

  -- and so they don't change what the settled places decide
  decided_more : (F X : List ℕ) (L : List (Slot P)) → AllByRecursion (Fits (length F)) L → AllByRecursion (λ r. has F r ≡ false) X → decided_by meld (F ++ X) L ≡ decided_by meld F L
  decided_more F X L fits out =
      let given = filter_map contribution_of L in
      let short : AllByRecursion (λ g. g.acked.count ≤ length F) given = filter_map_each contribution_of (Fits (length F)) (λ g. g.acked.count ≤ length F) acked_fits L fits in
      let raised : list_any (lacks_one (F ++ X) (union_of F L)) given ≡ list_any (lacks_one F (union_of F L)) given =
      any_same (lacks_one F (union_of F L)) (lacks_one (F ++ X) (union_of F L)) given
      (each_from (λ g. g.acked.count ≤ length F) (λ g. lacks_one (F ++ X) (union_of F L) g ≡ lacks_one F (union_of F L) g)
      (λ g le. ap (λ known. list_any (λ r. not (has known r)) (union_of F L)) (take-append-le g.acked.count F X le)) given short) in
      let made : List ℕ → Bool → Decision P = λ group raised. record { body = combined body_unit (body_meld meld) (map (λ g. body_of g.offer) given); failed = group; raised = raised } in
      ap (λ group. made group (list_any (lacks_one (F ++ X) group) given)) (union_more F X L fits out) ∙ ap (made (union_of F L)) raised
    where
      acked_fits : (s : Slot P) (g : Contribution P) → Fits (length F) s → contribution_of s ≡ Some g → g.acked.count ≤ length F
      acked_fits (Marked mark) g f e = absurd (cc e)
      acked_fits (Given given) g f e = let same : given ≡ g = cc e in subst (λ w. w.acked.count ≤ length F) same (omega (arith, f, given.within))

  -- one more event leaves a decided round decided, and as it was
  pub decision_push : (h : History P) (e : Entry P) (c k : ℕ) → IsLegal meld limits h → Exists h c → is_decided ranks h c k ≡ true → MayFollow meld limits h e.event
      → (is_decided ranks (h ++ e ∷ []) c k ≡ true) × (decision meld ranks (h ++ e ∷ []) c k ≡ decision meld ranks h c k)
  decision_push h e c k legal here all may =
      let ms = members ranks h c in
      let h' : History P = h ++ e ∷ [] in
      let F = failed ranks h c in
      let X = filter (has ms) (cons_option (declared_by e.event) []) in
      let same : members ranks h' c ≡ ms = members_same ranks h e c here in
      let list : round ranks h' c k ≡ round ranks h c k = ap (λ w. round_among w h' c k) same ∙ settled_push h e c k ms all in
      let fits : AllByRecursion (Fits (length F)) (round ranks h c k) = each_filter_map (slot h c k) (Fits (length F)) (λ r s is. (slot_stands h legal c k r s is).fits) ms in
      let out : AllByRecursion (λ r. has F r ≡ false) X = newly h e.event F (has ms) may (λ r o. not_in_filter (has ms) (failures h) r o) in (
        ap (λ w. list_all (λ r. is_some (slot h' c k r)) w) same ∙ all_some (slot h c k) (slot h' c k) (λ r s is. slot_remains h e c k r s is) ms all,
        ap₂ (decided_by meld) (failed_push h e c here may) list ∙ decided_more F X (round ranks h c k) fits out,
      )

  -- whoever reads a decided round later reads the same decision
  pub decision_stays : (h longer : History P) (c k : ℕ) → IsPrefix h longer → IsLegal meld limits longer → Exists h c → IsTrue (is_decided ranks h c k)
      → IsTrue (is_decided ranks longer c k) × (decision meld ranks longer c k ≡ decision meld ranks h c k)
  decision_stays h longer c k begins legal here all =
      let all_three = stays meld limits (λ w. Exists w c × IsTrue (is_decided ranks w c k) × (decision meld ranks w c k ≡ decision meld ranks h c k))
      (λ w e lw q may. let next = decision_push w e c k lw q.0 q.1 may in (exists_push w e c q.0, next.0, next.1 ∙ q.2))
      h longer begins legal (here, all, refl) in
      (all_three.1, all_three.2)
