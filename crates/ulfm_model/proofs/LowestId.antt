-- The least id of a mask.
use Rattle.std.proofs.Common.{◌≡◌, ℕ, zero, suc, ◌<◌, ◌==◌, Bool, true, false, cond, [], ◌∷◌, Some, None, refl, ap, ap₂, sym, subst, w64, ◌∙◌, arith, inl, inr}
use Rattle.ulfm_laws.specs.Ranges.{payload_bits}
use Rattle.std.specs.Prelude.{find, unwrap_or}
use Rattle.std.specs.Option.{option_or}
use Rattle.std.specs.Int.{bit_at, trailing_zeros}
use Rattle.std.proofs.lemmas.Bool.{cases_lt, eq-eqb}
use Rattle.std.proofs.lemmas.List.Folds.{find-append}
use Rattle.std.proofs.lemmas.Nat.Bits.{bit_at-trailing_zeros}
use Rattle.ulfm_laws.specs.declared.summary.CtxMask.{CtxMask}
use Rattle.ulfm_model.specs.History.{first_ranks}
use Rattle.ulfm_model.specs.Records.{IsLowestId}
use Rattle.ulfm_model.specs.Computed.{lowest_id}

module _ (p : ℕ → Bool) where
  last_of : (n : ℕ) → find p (first_ranks (suc n)) ≡ option_or (find p (first_ranks n)) (cond (p n) (Some n) None)
  last_of n = find-append p (first_ranks n) (n ∷ [])

  none_found : (n : ℕ) → ((k : ℕ) → k < n → p k ≡ false) → find p (first_ranks n) ≡ None
  none_found zero none = refl
  none_found (suc n) none =
      last_of n ∙ ap₂ option_or (none_found n (λ k below. none k (omega arith))) (ap (λ b. cond b (Some n) None) (none n (omega arith)))

  -- the first number below n that passes is found
  pub first_found : (n i : ℕ) → i < n → p i ≡ true → ((k : ℕ) → k < i → p k ≡ false) → find p (first_ranks n) ≡ Some i
  first_found zero i below passes first = absurd (omega arith)
  first_found (suc n) i below passes first = elim (cases_lt i n) [
    | inl less ↦ last_of n ∙ ap (λ o. option_or o (cond (p n) (Some n) None)) (first_found n i less passes first)
    | inr more ↦
        let same : i ≡ n = omega arith in
        last_of n ∙ (ap₂ option_or (none_found n (λ k less. first k (omega arith))) (ap (λ b. cond b (Some n) None) (ap p (sym same) ∙ passes)) ∙ ap Some (sym same))
  ]

-- the computed id is the least of a mask that isn't empty
pub lowest_is : (mask : CtxMask) → 0 < mask.bits → IsLowestId mask.bits (lowest_id mask.bits)
lowest_is mask some =
    let lowest = bit_at-trailing_zeros w64 mask.bits some mask.fits in
    let test : ℕ → Bool = λ i. bit_at mask.bits i == 1 in
    let found : find test (first_ranks payload_bits) ≡ Some (trailing_zeros w64 mask.bits) =
    first_found test payload_bits (trailing_zeros w64 mask.bits) lowest.0 (eq-eqb (bit_at mask.bits (trailing_zeros w64 mask.bits)) 1 lowest.1) (λ k below. ap (λ b. b == 1) (lowest.2 k below)) in
    let is : lowest_id mask.bits ≡ trailing_zeros w64 mask.bits = ap (λ o. unwrap_or o 0) found in
    subst (IsLowestId mask.bits) (sym is) (record { in_it = lowest.1; least = lowest.2 })
