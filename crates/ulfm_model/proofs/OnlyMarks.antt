-- The marks of a poll where nobody else steps are the computed ones.
use Rattle.std.proofs.Common.{◌≡◌, ℕ, zero, suc, ◌+◌, ◌-◌, ◌<◌, Bool, true, false, not, cond, List, [], ◌∷◌, ◌++◌, map, length, Some, None, is_some, slice_get, refl, ap, ap₂, sym, ◌∙◌, subst, arith, append_assoc, length-append, filter, filter_map, nat_eq, if◌then◌else◌}
use Rattle.std.specs.Prelude.{max, min}
use Rattle.std.specs.Coded.{le_prop}
use Rattle.std.specs.List.{AllByRecursion, IsDistinct, cons_option, enumerate_from}
use Rattle.std.proofs.lemmas.Bool.{eq-eqb}
use Rattle.std.proofs.lemmas.Map.Keys.{IsDistinct-head, IsDistinct-tail}
use Rattle.ulfm_laws.specs.declared.summary.Known.{Known}
use Rattle.ulfm_laws.specs.Counts.{same_known}
use Rattle.ulfm_model.specs.declared.contribution.MarkCount.{MarkCount}
use Rattle.ulfm_model.specs.declared.event.Event.{Event}
use Rattle.ulfm_model.specs.declared.event.Event.TheVariants.{Mark}
use Rattle.ulfm_model.specs.History.{History, slot}
use Rattle.ulfm_model.specs.Computed.{mark_at, mark_of}
use Rattle.ulfm_model.proofs.Lists.{at_member, has_at}

-- marks with one count are one
pub same_mark : (m n : MarkCount) → m.known.count ≡ n.known.count → m ≡ n
same_mark m n e =
    let Q : Known → Type 0 = λ k. (counted : 0 < k.count) → m ≡ record { known = k; counted = counted } in
    subst Q (same_known m.known n.known e) (λ f. let mk : (0 < m.known.count) → MarkCount = λ g. record { known = m.known; counted = g } in ap mk (le_prop m.counted f)) n.counted

-- a list without repeats has each element at one place
pub same_index : (xs : List ℕ) (i j r : ℕ) → IsDistinct nat_eq xs → slice_get xs i ≡ Some r → slice_get xs j ≡ Some r → i ≡ j
same_index [] i j r distinct at also = absurd (cc at)
same_index (x ∷ xs) zero zero r distinct at also = refl
same_index (x ∷ xs) zero (suc j) r distinct at also =
    let away = at_member (λ y. nat_eq x y ≡ false) xs r (IsDistinct-head nat_eq x xs distinct) (has_at xs j r also) in
    let itself : nat_eq x r ≡ true = eq-eqb x r (cc at) in
    absurd (cc (away, itself))
same_index (x ∷ xs) (suc i) zero r distinct at also =
    let away = at_member (λ y. nat_eq x y ≡ false) xs r (IsDistinct-head nat_eq x xs distinct) (has_at xs i r at) in
    let itself : nat_eq x r ≡ true = eq-eqb x r (cc also) in
    absurd (cc (away, itself))
same_index (x ∷ xs) (suc i) (suc j) r distinct at also = ap suc (same_index xs i j r (IsDistinct-tail nat_eq x xs distinct) at also)

get_past : (xs : List ℕ) (r : ℕ) (rest : List ℕ) → slice_get (xs ++ r ∷ rest) (length xs) ≡ Some r
get_past [] r rest = refl
get_past (x ∷ xs) r rest = get_past xs r rest

-- the mark of a rank, with its count
abbrev pub marked : {P : Type 0} → ℕ → ℕ → ℕ × MarkCount → Event P
marked c k p = Mark c k p.0 p.1

-- a count names the failed group up to and with its rank
abbrev pub Counts : List ℕ → ℕ × MarkCount → Type 0
Counts F p = slice_get F (p.1.known.count - 1) ≡ Some p.0

module _ {P : Type 0} (h : History P) (c k : ℕ) (F : List ℕ) (distinct : IsDistinct nat_eq F) where
  -- whether the place of a rank is empty
  abbrev pub is_empty : ℕ → Bool
  is_empty r = not (is_some (slot h c k r))

  -- the marks of the unsettled ones of the failed group, from a place of it on
  pub marks_are : (before rest : List ℕ) (pairs : List (ℕ × MarkCount)) → before ++ rest ≡ F → AllByRecursion (Counts F) pairs → map (λ p. p.0) pairs ≡ filter is_empty rest
      → map (marked {P = P} c k) pairs ≡ filter_map (mark_of h c k) (enumerate_from (length before + 1) rest)
  marks_are before [] [] at counts ranks = refl
  marks_are before [] (p ∷ pairs) at counts ranks = absurd (cc ranks)
  marks_are before (r ∷ rest) pairs at counts ranks =
      let further : (before ++ r ∷ []) ++ rest ≡ F = append_assoc before (r ∷ []) rest ∙ at in
      let place : length (before ++ r ∷ []) + 1 ≡ length before + 1 + 1 = omega (arith, length-append before (r ∷ [])) in
      go (λ pairs counts ranks. marks_are (before ++ r ∷ []) rest pairs further counts ranks ∙ ap (λ n. filter_map (mark_of h c k) (enumerate_from n rest)) place) pairs counts (is_some (slot h c k r)) ranks
    where
      one : (p : ℕ × MarkCount) → Counts F p → p.0 ≡ r → marked {P = P} c k p ≡ Mark c k r (mark_at (length before + 1))
      one p counts is =
          let here : slice_get F (length before) ≡ Some r = ap (λ w. slice_get w (length before)) (sym at) ∙ get_past before r rest in
          let index = same_index F (p.1.known.count - 1) (length before) r distinct (counts ∙ ap Some is) here in
          let count : p.1.known.count ≡ max 1 (min (length before + 1) 1024) = omega (arith, index, p.1.counted, p.1.known.in_range) in
          ap₂ (λ s m. Mark c k s m) is (same_mark p.1 (mark_at (length before + 1)) count)

      go : ((pairs : List (ℕ × MarkCount)) → AllByRecursion (Counts F) pairs → map (λ p. p.0) pairs ≡ filter is_empty rest → map (marked {P = P} c k) pairs ≡ filter_map (mark_of h c k) (enumerate_from (length before + 1 + 1) rest))
          → (pairs : List (ℕ × MarkCount)) → AllByRecursion (Counts F) pairs → (b : Bool) → map (λ p. p.0) pairs ≡ cond (not b) (r ∷ filter is_empty rest) (filter is_empty rest)
          → map (marked {P = P} c k) pairs ≡ cons_option (if b then None else Some (Mark c k r (mark_at (length before + 1)))) (filter_map (mark_of h c k) (enumerate_from (length before + 1 + 1) rest))
      go later pairs counts true ranks = later pairs counts ranks
      go later [] counts false ranks = absurd (cc ranks)
      go later (p ∷ pairs) counts false ranks = ap₂ (λ e es. e ∷ es) (one p counts.0 (cc ranks)) (later pairs counts.1 (cc ranks))
