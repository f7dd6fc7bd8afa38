-- One of a list that passes a test is enough.
use Rattle.std.proofs.Common.{◌≡◌, ◌==◌, ◌||◌, ℕ, zero, suc, Bool, true, false, List, [], ◌∷◌, slice_get, refl, sym, ap, ◌∙◌}
use Rattle.std.specs.{List.{list_any}, Option.{option_map_or}}
use Rattle.std.proofs.lemmas.Bool.{eqb-true}
use Rattle.ulfm_model.specs.History.{has}

or_true : (b : Bool) → (b || true) ≡ true
or_true true = refl
or_true false = refl

-- the one at a place
pub one_at : {X : Type 0} (p : X → Bool) (xs : List X) (i : ℕ) → option_map_or p (slice_get xs i) false ≡ true → list_any p xs ≡ true
one_at p [] i is = absurd (cc is)
one_at p (x ∷ xs) zero is = ap (λ (b : Bool). b || list_any p xs) is
one_at p (x ∷ xs) (suc i) is = ap (λ (b : Bool). p x || b) (one_at p xs i is) ∙ or_true (p x)

-- a rank that is among them
pub one_among : (p : ℕ → Bool) (xs : List ℕ) (r : ℕ) → has xs r ≡ true → p r ≡ true → list_any p xs ≡ true
one_among p [] r there is = absurd (cc there)
one_among p (x ∷ xs) r there is = go (x == r) refl (one_among p xs r)
  where
    go : (b : Bool) → (x == r) ≡ b → (has xs r ≡ true → p r ≡ true → list_any p xs ≡ true) → list_any p (x ∷ xs) ≡ true
    go true same rest = let one : x ≡ r = eqb-true x r same in ap (λ (b : Bool). b || list_any p xs) (ap p one ∙ is)
    go false apart rest = ap (λ (b : Bool). p x || b) (rest (sym (ap (λ (b : Bool). b || has xs r) apart) ∙ there) is) ∙ or_true (p x)
