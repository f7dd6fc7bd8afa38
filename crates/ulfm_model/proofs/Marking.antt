-- The marks of a poll: legal where nobody else steps, and then every declared member is settled.
use Rattle.std.proofs.Common.{◌≡◌, ℕ, suc, ◌+◌, ◌-◌, ◌<◌, ◌≤◌, Bool, true, false, not, cond, ◌&&◌, ◌||◌, ◌==◌, List, [], ◌∷◌, ◌++◌, length, Option, Some, None, is_some, slice_get, refl, ap, ap₂, sym, ◌∙◌, subst, arith, append-nil, append_assoc, filter, filter_map, nat_eq, IsTrue, if◌then◌else◌}
use Rattle.std.specs.Prelude.{max, min}
use Rattle.std.specs.List.{AllByRecursion, list_any, cons_option, enumerate_from, IsDistinct}
use Rattle.std.proofs.lemmas.Bool.{eqb-true, eq-eqb, or_left, or_right}
use Rattle.std.proofs.lemmas.List.Elements.{filter_map-append}
use Rattle.std.proofs.lemmas.Map.Keys.{IsDistinct-head, IsDistinct-tail}
use Rattle.std.proofs.lemmas.Map.Steps.{length-le_from_distinct_below}
use mathlib.Core.List.{IsPrefix}
use Rattle.ulfm_model.specs.declared.contribution.MarkCount.{MarkCount}
use Rattle.ulfm_model.specs.declared.contribution.Slot.{Slot}
use Rattle.ulfm_model.specs.declared.contribution.Slot.TheVariants.{Mark as Marked}
use Rattle.ulfm_model.specs.declared.limits.Limits.{Limits}
use Rattle.ulfm_model.specs.declared.event.Caller.{Caller}
use Rattle.ulfm_model.specs.declared.event.Entry.{Entry}
use Rattle.ulfm_model.specs.declared.event.Event.{Event}
use Rattle.ulfm_model.specs.declared.event.Event.TheVariants.{Fail, Settle, Mark, Arrive, Revoke, Spawn}
use Rattle.ulfm_model.specs.History.{History, entries_by, failures, has, same_place, slot, spawns}
use Rattle.ulfm_model.specs.History.{Exists, IsLegal, IsLegalAfter, MayFollow, failed, members}
use Rattle.ulfm_model.specs.Computed.{mark_at, mark_of, marks_of}
use Rattle.ulfm_model.specs.Terms.{settled_by}
use Rattle.ulfm_model.proofs.OneEvent.{declared_by, made_by}
use Rattle.ulfm_model.proofs.Lists.{distinct_filter, each_always, each_push, has_at, has_passes, in_list, length-filter-le, none_of}
use Rattle.ulfm_model.proofs.Histories.{by_events, legal_push, members_stay, slot_kept, slot_push, slot_stays}
use Rattle.ulfm_model.proofs.Spawned.{failures_distinct}
use Rattle.ulfm_model.proofs.Stable.{mark_stays}

below_all : (xs : List ℕ) (n q : ℕ) → AllByRecursion (λ r. r < n) xs → list_any (nat_eq q) xs ≡ true → q < n
below_all [] n q all e = absurd (cc e)
below_all (x ∷ xs) n q all e = go (below_all xs n q all.1) (nat_eq q x) refl e
  where
    go : (list_any (nat_eq q) xs ≡ true → q < n) → (b : Bool) → nat_eq q x ≡ b → (b || list_any (nat_eq q) xs) ≡ true → q < n
    go more true same e = subst (λ w. w < n) (sym (eqb-true q x same)) all.0
    go more false same e = more e

module _ {P : Type 0} (meld : P → P → P) (limits : Limits) where
  -- every declared rank is one of the world's
  pub failures_below : (h : History P) → IsLegal meld limits h → AllByRecursion (λ r. r < limits.ranks) (failures h)
  failures_below h legal =
      by_events meld limits (λ w. AllByRecursion (λ r. r < limits.ranks) (failures w)) tt
      (λ w e lw q may. subst (AllByRecursion (λ r. r < limits.ranks)) (sym (filter_map-append (λ x. declared_by x.event) w (e ∷ []))) (more w e.event may q)) h legal
    where
      more : (w : History P) (ev : Event P) → MayFollow meld limits w ev → AllByRecursion (λ r. r < limits.ranks) (failures w) → AllByRecursion (λ r. r < limits.ranks) (failures w ++ cons_option (declared_by ev) [])
      more w (Fail r) may q = each_push (λ r. r < limits.ranks) (failures w) r q may.0
      more w (Settle c k r given) may q = subst (AllByRecursion (λ r. r < limits.ranks)) (sym (append-nil (failures w))) q
      more w (Mark c k r known) may q = subst (AllByRecursion (λ r. r < limits.ranks)) (sym (append-nil (failures w))) q
      more w (Arrive c k r) may q = subst (AllByRecursion (λ r. r < limits.ranks)) (sym (append-nil (failures w))) q
      more w (Revoke c) may q = subst (AllByRecursion (λ r. r < limits.ranks)) (sym (append-nil (failures w))) q
      more w (Spawn j c k) may q = subst (AllByRecursion (λ r. r < limits.ranks)) (sym (append-nil (failures w))) q

  -- no more ranks are declared than there are
  pub failures_few : (h : History P) → IsLegal meld limits h → length (failures h) ≤ limits.ranks
  failures_few h legal =
      length-le_from_distinct_below (failures h) limits.ranks (failures_distinct meld limits h legal) (λ q is. below_all (failures h) limits.ranks q (failures_below h legal) is)

  -- and no more of any members
  pub failed_few : (h : History P) (members : List ℕ) → IsLegal meld limits h → length (filter (has members) (failures h)) ≤ limits.ranks
  failed_few h members legal = omega (arith, length-filter-le (has members) (failures h), failures_few h legal)

-- a settled place stays so, by what settles it
pub some_stays : {P : Type 0} (h more : History P) (c k r : ℕ) (o : Option (Slot P)) → slot h c k r ≡ o → is_some o ≡ true → is_some (slot (h ++ more) c k r) ≡ true
some_stays h more c k r None is some = absurd (cc some)
some_stays h more c k r (Some s) is some = ap is_some (slot_stays h (h ++ more) c k r s (more, refl) is)

-- each place is the same as itself
pub same_itself : (c k r : ℕ) → same_place (c, k, r) (c, k, r) ≡ true
same_itself c k r = rw (eq-eqb c c refl, eq-eqb k k refl, eq-eqb r r refl) refl

module _ {P : Type 0} (h : History P) (by : Caller) (c k : ℕ) where
  abbrev marked_as : ℕ → ℕ → Entry P
  marked_as n r = record { by = by; event = Mark c k r (mark_at n) }

  -- the marks of the unsettled ones of these members, which are declared from the n-th failure on
  abbrev pub marks_from : ℕ → List ℕ → List (Event P)
  marks_from n rest = filter_map (mark_of h c k) (enumerate_from n rest)

  -- the same with the first member's mark by whether it is settled
  abbrev marks_by : Bool → ℕ → ℕ → List ℕ → List (Event P)
  marks_by b n r rest = cons_option (if b then None else Some (Mark c k r (mark_at n))) (marks_from (n + 1) rest)

  -- marks declare nobody and make nothing
  quiet_marks : (n : ℕ) (rest : List ℕ) → (failures (entries_by by (marks_from n rest)) ≡ []) × (spawns (entries_by by (marks_from n rest)) ≡ [])
  quiet_marks n [] = (refl, refl)
  quiet_marks n (r ∷ rest) = go (is_some (slot h c k r)) (quiet_marks (n + 1) rest)
    where
      go : (b : Bool) → (failures (entries_by by (marks_from (n + 1) rest)) ≡ []) × (spawns (entries_by by (marks_from (n + 1) rest)) ≡ [])
          → (failures (entries_by by (marks_by b n r rest)) ≡ []) × (spawns (entries_by by (marks_by b n r rest)) ≡ [])
      go true more = more
      go false more = more

  -- they settle the unsettled ones
  marks_settle_unsettled : (n : ℕ) (rest : List ℕ) → settled_by (marks_from n rest) ≡ filter (λ r. not (is_some (slot h c k r))) rest
  marks_settle_unsettled n [] = refl
  marks_settle_unsettled n (r ∷ rest) = go (is_some (slot h c k r)) (marks_settle_unsettled (n + 1) rest)
    where
      go : (b : Bool) → settled_by (marks_from (n + 1) rest) ≡ filter (λ r. not (is_some (slot h c k r))) rest
          → settled_by (marks_by b n r rest) ≡ cond (not b) (r ∷ filter (λ r. not (is_some (slot h c k r))) rest) (filter (λ r. not (is_some (slot h c k r))) rest)
      go true more = more
      go false more = ap (λ rs. r ∷ rs) more

  -- what holds of the marks of these members holds of all of them
  marks_each : (Q : Event P → Type 0) → (rest : List ℕ) → ((r : ℕ) (mark : MarkCount) → has rest r ≡ true → Q (Mark c k r mark)) → (n : ℕ) → AllByRecursion Q (marks_from n rest)
  marks_each Q [] each n = tt
  marks_each Q (r ∷ rest) each n =
      let first : Q (Mark c k r (mark_at n)) = each r (mark_at n) (or_left (r == r) (has rest r) (eq-eqb r r refl)) in
      go (is_some (slot h c k r)) first (marks_each Q rest (λ y mark in_it. each y mark (or_right (r == y) (has rest y) in_it)) (n + 1))
    where
      go : (b : Bool) → Q (Mark c k r (mark_at n)) → AllByRecursion Q (marks_from (n + 1) rest) → AllByRecursion Q (marks_by b n r rest)
      go true first more = more
      go false first more = (first, more)

  -- the places of these members are as they were
  abbrev AreSame : History P → List ℕ → Type 0
  AreSame w rest = AllByRecursion (λ r. slot w c k r ≡ slot h c k r) rest

  -- a mark leaves the places of the others
  same_push : (w : History P) (n r : ℕ) (rest : List ℕ) → AllByRecursion (λ y. nat_eq r y ≡ false) rest → AreSame w rest → AreSame (w ++ marked_as n r ∷ []) rest
  same_push w n r [] apart same = tt
  same_push w n r (y ∷ rest) apart same = (
    slot_kept w (marked_as n r) c k y (ap (λ b. if b then Some (Marked (mark_at n)) else None) (away (c == c) (k == k) (r == y) apart.0)) ∙ same.0,
    same_push w n r rest apart.1 same.1,
  )
    where
      away : (a b d : Bool) → d ≡ false → (a && b && d) ≡ false
      away true true d e = e
      away true false d e = refl
      away false b d e = refl

  -- a mark settles its member
  settled_now : (w : History P) (n r : ℕ) → slot w c k r ≡ None → slot (w ++ marked_as n r ∷ []) c k r ≡ Some (Marked (mark_at n))
  settled_now w n r empty = slot_push w (marked_as n r) c k r empty ∙ ap (λ b. if b then Some (Marked (mark_at n)) else None) (same_itself c k r)

  -- after their marks each of these members is settled
  settled_after : (rest : List ℕ) (n : ℕ) (w : History P) → AreSame w rest → IsDistinct nat_eq rest → AllByRecursion (λ r. IsTrue (is_some (slot (w ++ entries_by by (marks_from n rest)) c k r))) rest
  settled_after [] n w same distinct = tt
  settled_after (r ∷ rest) n w same distinct =
      let tail = IsDistinct-tail nat_eq r rest distinct in
      let apart = IsDistinct-head nat_eq r rest distinct in
      go (is_some (slot h c k r)) refl (settled_after rest (n + 1) w same.1 tail) (settled_after rest (n + 1) (w ++ marked_as n r ∷ []) (same_push w n r rest apart same.1) tail)
    where
      go : (b : Bool) → is_some (slot h c k r) ≡ b → AllByRecursion (λ y. IsTrue (is_some (slot (w ++ entries_by by (marks_from (n + 1) rest)) c k y))) rest
          → AllByRecursion (λ y. IsTrue (is_some (slot ((w ++ marked_as n r ∷ []) ++ entries_by by (marks_from (n + 1) rest)) c k y))) rest
          → AllByRecursion (λ y. IsTrue (is_some (slot (w ++ entries_by by (marks_by b n r rest)) c k y))) (r ∷ rest)
      go true is skip mark = (some_stays w (entries_by by (marks_from (n + 1) rest)) c k r (slot h c k r) same.0 is, skip)
      go false is skip mark =
          let now = settled_now w n r (same.0 ∙ none_of (slot h c k r) is) in
          subst (λ w'. AllByRecursion (λ y. IsTrue (is_some (slot w' c k y))) (r ∷ rest)) (append_assoc w (marked_as n r ∷ []) (entries_by by (marks_from (n + 1) rest)))
          (some_stays (w ++ marked_as n r ∷ []) (entries_by by (marks_from (n + 1) rest)) c k r (Some (Marked (mark_at n))) now refl, mark)

module _ {P : Type 0} (meld : P → P → P) (limits : Limits) (h : History P) (by : Caller) (c k : ℕ) (legal : IsLegal meld limits h) (exists : Exists h c) where
  abbrev ranks : ℕ
  ranks = limits.ranks

  -- the history after the marks
  abbrev marked : History P
  marked = h ++ entries_by by (marks_of ranks h c k)

  failed_distinct : IsDistinct nat_eq (failed ranks h c)
  failed_distinct = distinct_filter (has (members ranks h c)) (failures h) (failures_distinct meld limits h legal)

  -- the member that is declared as the n-th of its communicator, counted from 0, may be marked
  may_mark : (n r : ℕ) → k < limits.rounds → ranks ≤ 1024 → slice_get (failed ranks h c) n ≡ Some r → slot h c k r ≡ None → MayFollow meld limits h (Mark c k r (mark_at (n + 1)))
  may_mark n r round small at empty =
      let below = in_list (failed ranks h c) n r at in
      let few = failed_few meld limits h (members ranks h c) legal in
      let count : max 1 (min (n + 1) 1024) - 1 ≡ n = omega (arith, below, few, small) in (
        record { exists = exists; member = has_passes (has (members ranks h c)) (failures h) r (has_at (failed ranks h c) n r at); in_rounds = round },
        empty,
        ap (slice_get (failed ranks h c)) count ∙ at,
      )

  legal_from : (rest : List ℕ) (n : ℕ) (w : History P) → k < limits.rounds → ranks ≤ 1024 → IsPrefix h w → IsLegal meld limits w → ((i r : ℕ) → slice_get rest i ≡ Some r → slice_get (failed ranks h c) (n + i) ≡ Some r)
      → AreSame h by c k w rest → IsDistinct nat_eq rest → IsLegalAfter meld limits w (entries_by by (marks_from h by c k (n + 1) rest))
  legal_from [] n w round small begins lw at same distinct = tt
  legal_from (r ∷ rest) n w round small begins lw at same distinct =
      let later : (i y : ℕ) → slice_get rest i ≡ Some y → slice_get (failed ranks h c) (n + 1 + i) ≡ Some y =
      λ i y e. let shift : n + 1 + i ≡ n + suc i = omega arith in ap (slice_get (failed ranks h c)) shift ∙ at (suc i) y e in
      let tail = IsDistinct-tail nat_eq r rest distinct in
      let apart = IsDistinct-head nat_eq r rest distinct in
      let first : slice_get (failed ranks h c) n ≡ Some r = let shift : n ≡ n + 0 = omega arith in ap (slice_get (failed ranks h c)) shift ∙ at 0 r refl in
      go (is_some (slot h c k r)) refl (legal_from rest (n + 1) w round small begins lw later same.1 tail)
      (λ empty.
      let may = mark_stays meld limits h w c k r (mark_at (n + 1)) begins lw (may_mark n r round small first empty) (same.0 ∙ empty) in
      let more : History P = marked_as h by c k (n + 1) r ∷ [] in
      (may, legal_from rest (n + 1) (w ++ more) round small (begins.0 ++ more, sym (append_assoc h begins.0 more) ∙ ap (λ v. v ++ more) begins.1) (legal_push meld limits w (marked_as h by c k (n + 1) r) lw may) later (same_push h by c k w (n + 1) r rest apart same.1) tail))
    where
      go : (b : Bool) → is_some (slot h c k r) ≡ b → IsLegalAfter meld limits w (entries_by by (marks_from h by c k (n + 1 + 1) rest)) → (slot h c k r ≡ None → IsLegalAfter meld limits w (entries_by by (marks_by h by c k false (n + 1) r rest)))
          → IsLegalAfter meld limits w (entries_by by (marks_by h by c k b (n + 1) r rest))
      go true is skip mark = skip
      go false is skip mark = mark (none_of (slot h c k r) is)

  same_before : AreSame h by c k h (failed ranks h c)
  same_before = each_always (λ r. slot h c k r ≡ slot h c k r) (λ r. refl) (failed ranks h c)

  -- the marks are legal, one after another
  pub marks_legal : k < limits.rounds → ranks ≤ 1024 → IsLegalAfter meld limits h (entries_by by (marks_of ranks h c k))
  marks_legal round small =
      legal_from (failed ranks h c) 0 h round small ([], append-nil h) legal (λ i r e. let shift : 0 + i ≡ i = omega arith in ap (slice_get (failed ranks h c)) shift ∙ e) same_before failed_distinct

  -- they declare nobody
  pub marks_failures : failures marked ≡ failures h
  marks_failures = filter_map-append (λ e. declared_by e.event) h (entries_by by (marks_of ranks h c k)) ∙ (ap (λ rs. failures h ++ rs) (quiet_marks h by c k 1 (failed ranks h c)).0 ∙ append-nil (failures h))

  -- and make no communicator
  pub marks_spawns : spawns marked ≡ spawns h
  marks_spawns = filter_map-append (λ e. made_by e.event) h (entries_by by (marks_of ranks h c k)) ∙ (ap (λ js. spawns h ++ js) (quiet_marks h by c k 1 (failed ranks h c)).1 ∙ append-nil (spawns h))

  -- the members of the communicator stay
  pub marks_members : members ranks marked c ≡ members ranks h c
  marks_members = (members_stay ranks h marked c (entries_by by (marks_of ranks h c k), refl) exists).1

  -- and so does its failed group
  pub marks_failed : failed ranks marked c ≡ failed ranks h c
  marks_failed = ap₂ (λ ms fs. filter (has ms) fs) marks_members marks_failures

  -- each declared member is settled then
  pub marks_settle : AllByRecursion (λ r. IsTrue (is_some (slot marked c k r))) (failed ranks h c)
  marks_settle = settled_after h by c k (failed ranks h c) 1 h same_before failed_distinct

  -- those who were unsettled by these marks, in the order of their failures
  pub marks_settled_by : settled_by (marks_of ranks h c k) ≡ filter (λ r. not (is_some (slot h c k r))) (failed ranks h c)
  marks_settled_by = marks_settle_unsettled h by c k 1 (failed ranks h c)

  -- what holds of the mark of each declared member holds of each of these marks
  pub each_mark : (Q : Event P → Type 0) → ((r : ℕ) (mark : MarkCount) → has (failed ranks h c) r ≡ true → Q (Mark c k r mark)) → AllByRecursion Q (marks_of ranks h c k)
  each_mark Q each = marks_each h by c k Q (failed ranks h c) each 1
