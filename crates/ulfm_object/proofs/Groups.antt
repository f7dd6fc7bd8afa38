-- Who is in a communicator that doesn't exist: nobody.
use Rattle.std.proofs.Common.{◌≡◌, ℕ, Bool, List, [], ◌∷◌, filter, length, refl, ap, ◌∙◌, arith, inl, inr, if◌then◌else◌, Result, Ok, Err}
use Rattle.std.specs.Prelude.{IfOk}
use Rattle.std.proofs.lemmas.Bool.{cases_lt, ne_eqb}
use Rattle.ulfm_model.specs.History.{Exists, History, failed, failed_among, failures, first_ranks, has, members, spawns}
use Rattle.ulfm_model.proofs.Walks.{members_missing}

none_of : (xs : List ℕ) → filter (has []) xs ≡ []
none_of [] = refl
none_of (x ∷ xs) = none_of xs

module _ {P : Type 0} (ranks : ℕ) (h : History P) (c : ℕ) (missing : Exists h c → ⊥) where
  members_nobody : members ranks h c ≡ []
  members_nobody = elim (cases_lt (length (spawns h)) c) [
    | inl above ↦ members_missing ranks h c (inr above) ∙ ap (λ (b : Bool). first_ranks (if b then ranks else 0)) (ne_eqb c 0 (λ same. omega (arith, above, same)))
    | inr here ↦ absurd (missing here)
  ]

  failed_nobody : failed ranks h c ≡ []
  failed_nobody = ap (λ group. failed_among group h) members_nobody ∙ none_of (failures h)

  module _ {V E : Type 0} (items : V → List ℕ) where
    pub nobody_in : (result : Result V E) → IfOk result (λ group. items group ≡ members ranks h c) → IfOk result (λ group. items group ≡ [])
    nobody_in (Ok group) is = is ∙ members_nobody
    nobody_in (Err e) is = tt

    pub nobody_failed : (result : Result V E) → IfOk result (λ group. items group ≡ failed ranks h c) → IfOk result (λ group. items group ≡ [])
    nobody_failed (Ok group) is = is ∙ failed_nobody
    nobody_failed (Err e) is = tt
