-- A legal history has no more events than its world has words.
use Rattle.std.proofs.Common.{◌≡◌, ℕ, suc, ◌+◌, ◌*◌, ◌<◌, ◌≤◌, ◌||◌, Bool, true, false, List, [], ◌∷◌, ◌++◌, length, map, filter_map, refl, sym, subst, append-nil, arith, nat_eq}
use Rattle.std.specs.List.{AllByRecursion, IsDistinct, cons_option, list_any}
use Rattle.std.proofs.lemmas.{Bool.{eq-eqb, eqb-true}, List.{length-map}, Nat.{mul-add-lt}}
use Rattle.std.proofs.lemmas.List.Elements.{filter_map-append}
use Rattle.std.proofs.lemmas.Map.{Keys.{IsDistinct-cons, IsDistinct-head, IsDistinct-tail}, Steps.{length-le_from_distinct_below}}
use Rattle.ulfm_model.specs.declared.{contribution.Slot.{Slot}, event.Entry.{Entry}, event.Event.{Event}, limits.Limits.{Limits}}
use Rattle.ulfm_model.specs.declared.event.Event.TheVariants.{Fail, Settle, Mark, Arrive, Revoke, Spawn}
use Rattle.ulfm_model.specs.{History.{History, IsLegal, MayFollow, failures, same_place, says, spawns}, Words.{MayOpen, size_of}}
use Rattle.ulfm_model.proofs.{Histories.{by_events}, Lists.{each_push, none_distinct}, Once.{happens_once}}
use Rattle.ulfm_words.specs.Places.{IsCell}
use Rattle.ulfm_words.proofs.{Numbering.{digits}, Ranks.{failures_le, place_within, spawns_below}}

-- things of which no two are one, each with a number below n that it shares with none, are at most n
module _ {X : Type 0} (same : X → X → Bool) (number : X → ℕ) (In : X → Type 0) (one : (x y : X) → In x → In y → number x ≡ number y → same x y ≡ true) where
  apart : (x : X) → In x → (xs : List X) → AllByRecursion In xs → AllByRecursion (λ y. same x y ≡ false) xs → AllByRecursion (λ n. nat_eq (number x) n ≡ false) (map number xs)
  apart x here [] each other = tt
  apart x here (y ∷ xs) each other = (go (nat_eq (number x) (number y)) refl, apart x here xs each.1 other.1)
    where
      go : (b : Bool) → nat_eq (number x) (number y) ≡ b → nat_eq (number x) (number y) ≡ false
      go true is = let yes = one x y here each.0 (eqb-true (number x) (number y) is) in let no = other.0 in absurd (cc (yes, no))
      go false is = is

  numbers_apart : (xs : List X) → AllByRecursion In xs → IsDistinct same xs → IsDistinct nat_eq (map number xs)
  numbers_apart [] each distinct = none_distinct nat_eq
  numbers_apart (x ∷ xs) each distinct =
      IsDistinct-cons nat_eq (number x) (map number xs) (apart x each.0 xs each.1 (IsDistinct-head same x xs distinct)) (numbers_apart xs each.1 (IsDistinct-tail same x xs distinct))

  below : (n : ℕ) → ((x : X) → In x → number x < n) → (xs : List X) → AllByRecursion In xs → (q : ℕ) → list_any (nat_eq q) (map number xs) ≡ true → q < n
  below n lt [] each q is = absurd (cc is)
  below n lt (x ∷ xs) each q is = go (nat_eq q (number x)) refl is (below n lt xs each.1 q)
    where
      go : (b : Bool) → nat_eq q (number x) ≡ b → (b || list_any (nat_eq q) (map number xs)) ≡ true → (list_any (nat_eq q) (map number xs) ≡ true → q < n) → q < n
      go true here there more = subst (λ m. m < n) (sym (eqb-true q (number x) here)) (lt x each.0)
      go false here there more = more there

  few_numbered : (n : ℕ) → ((x : X) → In x → number x < n) → (xs : List X) → AllByRecursion In xs → IsDistinct same xs → length xs ≤ n
  few_numbered n lt xs each distinct =
      omega (arith, length-le_from_distinct_below (map number xs) n (numbers_apart xs each distinct) (below n lt xs each), length-map xs number)

-- the number of a place among the cells of a world
abbrev cell_number : Limits → ℕ × ℕ × ℕ → ℕ
cell_number limits at = (at.0 * limits.rounds + at.1) * limits.ranks + at.2

abbrev InCell : Limits → ℕ × ℕ × ℕ → Type 0
InCell limits at = IsCell limits at.0 at.1 at.2

abbrev cells : Limits → ℕ
cells limits = limits.comms * limits.rounds * limits.ranks

one_cell : (limits : Limits) (x y : ℕ × ℕ × ℕ) → InCell limits x → InCell limits y → cell_number limits x ≡ cell_number limits y → same_place x y ≡ true
one_cell limits x y a b e =
    let last = digits limits.ranks (x.0 * limits.rounds + x.1) x.2 (y.0 * limits.rounds + y.1) y.2 a.rank b.rank e in
    let first = digits limits.rounds x.0 x.1 y.0 y.1 a.round b.round last.0 in
    rw (eq-eqb x.0 y.0 first.0, eq-eqb x.1 y.1 first.1, eq-eqb x.2 y.2 last.1) refl

cell_below : (limits : Limits) (x : ℕ × ℕ × ℕ) → InCell limits x → cell_number limits x < cells limits
cell_below limits x a =
    let row = mul-add-lt x.0 limits.rounds x.1 limits.comms a.comm a.round in
    let all = mul-add-lt (x.0 * limits.rounds + x.1) limits.ranks x.2 (limits.rounds * limits.comms) row a.rank in
    omega (arith, all)

few_cells : (limits : Limits) {Y : Type 0} (at : Y → ℕ × ℕ × ℕ) (ys : List Y) → AllByRecursion (λ y. InCell limits (at y)) ys → IsDistinct (λ x y. same_place (at x) (at y)) ys → length ys ≤ cells limits
few_cells limits at ys each distinct =
    few_numbered (λ x y. same_place (at x) (at y)) (λ y. cell_number limits (at y)) (λ y. InCell limits (at y)) (λ x y a b e. one_cell limits (at x) (at y) a b e)
    (cells limits) (λ y a. cell_below limits (at y) a) ys each distinct

module _ {P : Type 0} where
  abbrev puts : History P → List ((ℕ × ℕ × ℕ) × Slot P)
  puts h = filter_map (λ (e : Entry P). (says e.event).settles) h

  abbrev arrivals : History P → List (ℕ × ℕ × ℕ)
  arrivals h = filter_map (λ (e : Entry P). (says e.event).arrives) h

  abbrev revoked : History P → List ℕ
  revoked h = filter_map (λ (e : Entry P). (says e.event).revokes) h

  -- each event says one thing
  kinds_are : (h : History P) → length h ≡ length (failures h) + length (puts h) + length (arrivals h) + length (revoked h) + length (spawns h)
  kinds_are [] = refl
  kinds_are (e ∷ h) = go e.event (kinds_are h)
    where
      go : (event : Event P) → length h ≡ length (failures h) + length (puts h) + length (arrivals h) + length (revoked h) + length (spawns h)
          → suc (length h) ≡ length (cons_option (says event).declares (failures h)) + length (cons_option (says event).settles (puts h)) + length (cons_option (says event).arrives (arrivals h)) + length (cons_option (says event).revokes (revoked h)) + length (cons_option (says event).makes (spawns h))
      go (Fail r) same = omega (arith, same)
      go (Settle c k r given) same = omega (arith, same)
      go (Mark c k r mark) same = omega (arith, same)
      go (Arrive c k r) same = omega (arith, same)
      go (Revoke c) same = omega (arith, same)
      go (Spawn j c k) same = omega (arith, same)

module _ {P : Type 0} (meld : P → P → P) (limits : Limits) (wide : MayOpen limits) where
  puts_within : (h : History P) → IsLegal meld limits h → AllByRecursion (λ (put : (ℕ × ℕ × ℕ) × Slot P). InCell limits put.0) (puts h)
  puts_within h legal =
      by_events meld limits (λ w. AllByRecursion (λ (put : (ℕ × ℕ × ℕ) × Slot P). InCell limits put.0) (puts w)) tt
      (λ w e lw q may. subst (AllByRecursion (λ (put : (ℕ × ℕ × ℕ) × Slot P). InCell limits put.0)) (sym (filter_map-append (λ (x : Entry P). (says x.event).settles) w (e ∷ []))) (more w lw e.event may q)) h legal
    where
      more : (w : History P) → IsLegal meld limits w → (event : Event P) → MayFollow meld limits w event → AllByRecursion (λ (put : (ℕ × ℕ × ℕ) × Slot P). InCell limits put.0) (puts w)
          → AllByRecursion (λ (put : (ℕ × ℕ × ℕ) × Slot P). InCell limits put.0) (puts w ++ cons_option (says event).settles [])
      more w lw (Settle c k r given) may q = each_push (λ (put : (ℕ × ℕ × ℕ) × Slot P). InCell limits put.0) (puts w) _ q (place_within meld limits w c k r lw wide may.0)
      more w lw (Mark c k r mark) may q = each_push (λ (put : (ℕ × ℕ × ℕ) × Slot P). InCell limits put.0) (puts w) _ q (place_within meld limits w c k r lw wide may.0)
      more w lw (Fail r) may q = rw (append-nil (puts w)) q
      more w lw (Arrive c k r) may q = rw (append-nil (puts w)) q
      more w lw (Revoke c) may q = rw (append-nil (puts w)) q
      more w lw (Spawn j c k) may q = rw (append-nil (puts w)) q

  arrivals_within : (h : History P) → IsLegal meld limits h → AllByRecursion (InCell limits) (arrivals h)
  arrivals_within h legal =
      by_events meld limits (λ w. AllByRecursion (InCell limits) (arrivals w)) tt
      (λ w e lw q may. subst (AllByRecursion (InCell limits)) (sym (filter_map-append (λ (x : Entry P). (says x.event).arrives) w (e ∷ []))) (more w lw e.event may q)) h legal
    where
      more : (w : History P) → IsLegal meld limits w → (event : Event P) → MayFollow meld limits w event → AllByRecursion (InCell limits) (arrivals w)
          → AllByRecursion (InCell limits) (arrivals w ++ cons_option (says event).arrives [])
      more w lw (Arrive c k r) may q = each_push (InCell limits) (arrivals w) (c, k, r) q (place_within meld limits w c k r lw wide may.0)
      more w lw (Settle c k r given) may q = rw (append-nil (arrivals w)) q
      more w lw (Mark c k r mark) may q = rw (append-nil (arrivals w)) q
      more w lw (Fail r) may q = rw (append-nil (arrivals w)) q
      more w lw (Revoke c) may q = rw (append-nil (arrivals w)) q
      more w lw (Spawn j c k) may q = rw (append-nil (arrivals w)) q

  revoked_within : (h : History P) → IsLegal meld limits h → AllByRecursion (λ c. c < limits.comms) (revoked h)
  revoked_within h legal =
      by_events meld limits (λ w. AllByRecursion (λ c. c < limits.comms) (revoked w)) tt
      (λ w e lw q may. subst (AllByRecursion (λ c. c < limits.comms)) (sym (filter_map-append (λ (x : Entry P). (says x.event).revokes) w (e ∷ []))) (more w lw e.event may q)) h legal
    where
      more : (w : History P) → IsLegal meld limits w → (event : Event P) → MayFollow meld limits w event → AllByRecursion (λ c. c < limits.comms) (revoked w)
          → AllByRecursion (λ c. c < limits.comms) (revoked w ++ cons_option (says event).revokes [])
      more w lw (Revoke c) may q =
          let few = spawns_below meld limits w lw wide.in_range.some_comms in
          let here = may.0 in
          each_push (λ c. c < limits.comms) (revoked w) c q (omega (arith, few, here))
      more w lw (Arrive c k r) may q = rw (append-nil (revoked w)) q
      more w lw (Settle c k r given) may q = rw (append-nil (revoked w)) q
      more w lw (Mark c k r mark) may q = rw (append-nil (revoked w)) q
      more w lw (Fail r) may q = rw (append-nil (revoked w)) q
      more w lw (Spawn j c k) may q = rw (append-nil (revoked w)) q

  -- a legal history has no more events than there are words
  pub events_few : (h : History P) → IsLegal meld limits h → length h ≤ size_of limits
  events_few h legal =
      let once = happens_once meld limits h legal in
      let all = kinds_are h in
      let declared = failures_le meld limits h legal in
      let settled = few_cells limits (λ (put : (ℕ × ℕ × ℕ) × Slot P). put.0) (puts h) (puts_within h legal) once.settled in
      let arrived = few_cells limits (λ (place : ℕ × ℕ × ℕ). place) (arrivals h) (arrivals_within h legal) once.arrived in
      let gone = few_numbered nat_eq (λ c. c) (λ c. c < limits.comms) (λ x y a b e. eq-eqb x y e) limits.comms (λ c lt. lt) (revoked h) (revoked_within h legal) once.revoked in
      let made = spawns_below meld limits h legal wide.in_range.some_comms in
      omega (arith, all, declared, settled, arrived, gone, made)
