-- Those of a list that pass a test, up to a place.
use Rattle.std.proofs.Common.{◌≡◌, ℕ, zero, suc, ◌+◌, ◌<◌, ◌≤◌, Bool, true, false, cond, List, [], ◌∷◌, ◌++◌, filter, length, take, slice_index_or, refl, ap, sym, ◌∙◌}
use Rattle.std.proofs.Common.{arith, append-nil, add-one}
use Rattle.std.proofs.lemmas.List.Elements.{filter-append}
use Rattle.std.proofs.Math.Seq.{take-suc}
use Rattle.ulfm_model.proofs.Lists.{length-filter-le}

one_further : (p : ℕ → Bool) (xs : List ℕ) (i : ℕ) → i < length xs → filter p (take (i + 1) xs) ≡ filter p (take i xs) ++ cond (p (slice_index_or xs i 0))
    (slice_index_or xs i 0 ∷ []) []
one_further p xs i le = ap (filter p) (rw add-one (take-suc xs i 0 le)) ∙ filter-append p (take i xs) (slice_index_or xs i 0 ∷ [])

-- the next one passes
pub one_passes : (p : ℕ → Bool) (xs : List ℕ) (i : ℕ) → i < length xs → p (slice_index_or xs i 0) ≡ true
    → filter p (take (i + 1) xs) ≡ filter p (take i xs) ++ slice_index_or xs i 0 ∷ []
one_passes p xs i le is = one_further p xs i le ∙ ap (λ b. filter p (take i xs) ++ cond b (slice_index_or xs i 0 ∷ []) []) is

-- it doesn't
pub one_fails : (p : ℕ → Bool) (xs : List ℕ) (i : ℕ) → i < length xs → p (slice_index_or xs i 0) ≡ false → filter p (take (i + 1) xs) ≡ filter p (take i xs)
one_fails p xs i le is = one_further p xs i le ∙ (ap (λ b. filter p (take i xs) ++ cond b (slice_index_or xs i 0 ∷ []) []) is ∙ append-nil
    (filter p (take i xs)))

-- before a place with one that passes there are fewer
pub fewer_before : (p : ℕ → Bool) (xs : List ℕ) (i : ℕ) → i < length xs → p (slice_index_or xs i 0) ≡ true
    → length (filter p (take i xs)) < length (filter p xs)
fewer_before p [] i le is = absurd (omega arith)
fewer_before p (x ∷ xs) zero le is = let here : length (cond true (x ∷ filter p xs) (filter p xs)) ≡ length (filter p (x ∷ xs)) =
    ap (λ b. length (cond b (x ∷ filter p xs) (filter p xs))) (sym is) in omega (arith, here)
fewer_before p (x ∷ xs) (suc i) le is =
    let rest = fewer_before p xs i (omega arith) is in
    elim (p x) as (λ b. length (cond b (x ∷ filter p (take i xs)) (filter p (take i xs))) < length (cond b (x ∷ filter p xs) (filter p xs)))
    [ true ↦ omega arith | false ↦ rest ]

-- where as many pass as there are, all are kept
pub all_pass : (p : ℕ → Bool) (xs : List ℕ) → length (filter p xs) ≡ length xs → filter p xs ≡ xs
all_pass p [] e = refl
all_pass p (x ∷ xs) e = go (all_pass p xs) (length-filter-le p xs) (p x) e
  where
    go : (length (filter p xs) ≡ length xs → filter p xs ≡ xs) → length (filter p xs) ≤ length xs → (b : Bool)
        → length (cond b (x ∷ filter p xs) (filter p xs)) ≡ length (x ∷ xs) → cond b (x ∷ filter p xs) (filter p xs) ≡ x ∷ xs
    go rest few true e = ap (λ ys. x ∷ ys) (rest (omega (arith, e)))
    go rest few false e = absurd (omega (arith, few, e))
