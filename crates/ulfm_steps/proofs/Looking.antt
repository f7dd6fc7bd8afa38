-- What one load tells of a look.
use Rattle.std.proofs.Common.{◌≡◌, ℕ, ◌+◌, ◌<◌, ◌≤◌, Bool, true, false, nat_eq, List, [], ◌∷◌, ◌++◌, length, Some, None, slice_get, refl, ap, sym, ◌∙◌, arith, append-nil, append_assoc, length-append}
use Rattle.std.proofs.lemmas.Bool.{eqb-true, eqb-false}
use mathlib.Core.List.{IsPrefix}
use Rattle.ulfm_model.specs.declared.limits.Limits.{Limits}
use Rattle.ulfm_model.specs.History.{History, IsLegal, failures}
use Rattle.ulfm_words.proofs.Ranks.{failures_le}
use Rattle.ulfm_steps.specs.Looks.{LookIs}

no_more : {X : Type 0} (rest : List X) → slice_get rest 0 ≡ None → rest ≡ []
no_more [] e = refl
no_more (r ∷ rest) e = absurd (cc e)

at_seam : {X : Type 0} (f rest : List X) → slice_get (f ++ rest) (length f) ≡ slice_get rest 0
at_seam [] rest = refl
at_seam (x ∷ f) rest = at_seam f rest

head_is : {X : Type 0} (rest : List X) (r : X) → slice_get rest 0 ≡ Some r → IsPrefix (r ∷ []) rest
head_is [] r e = absurd (cc e)
head_is (x ∷ rest) r e = let same : r ≡ x = cc e in (rest, ap (λ w. w ∷ rest) same)

-- the place past what was found is empty: all was found
pub whole_found : {X : Type 0} (f whole : List X) → IsPrefix f whole → slice_get whole (length f) ≡ None → f ≡ whole
whole_found f whole begins e =
    let at : slice_get begins.0 0 ≡ None = sym (at_seam f begins.0) ∙ (ap (λ w. slice_get w (length f)) begins.1 ∙ e) in
    sym (append-nil f) ∙ (ap (λ w. f ++ w) (sym (no_more begins.0 at)) ∙ begins.1)

-- it holds one more
pub more_found : {X : Type 0} (f whole : List X) (r : X) → IsPrefix f whole → slice_get whole (length f) ≡ Some r → IsPrefix (f ++ r ∷ []) whole
more_found f whole r begins e =
    let at : slice_get begins.0 0 ≡ Some r = sym (at_seam f begins.0) ∙ (ap (λ w. slice_get w (length f)) begins.1 ∙ e) in
    let next = head_is begins.0 r at in
    (next.0, append_assoc f (r ∷ []) next.0 ∙ (ap (λ w. f ++ w) next.1 ∙ begins.1))

-- there are no more than were found
pub full_found : {X : Type 0} (f whole : List X) → IsPrefix f whole → length whole ≤ length f → f ≡ whole
full_found f whole begins le =
    sym (append-nil f) ∙ (ap (λ w. f ++ w) (sym (empty begins.0 (omega (arith, ap length begins.1, length-append f begins.0, le)))) ∙ begins.1)
  where
    empty : {X : Type 0} (rest : List X) → length rest ≡ 0 → rest ≡ []
    empty [] e = refl
    empty (x ∷ rest) e = absurd (omega arith)

-- the list after one more entry was found
pub look_next : {P : Type 0} (meld : P → P → P) (limits : Limits) (h : History P) (found items : List ℕ) (r n ranks : ℕ) → IsLegal meld limits h → IsPrefix (found ++ r ∷ []) (failures h) → length found < limits.ranks
    → items ≡ found ++ r ∷ [] → n ≡ length items → ranks ≡ limits.ranks → LookIs limits (nat_eq n ranks) items h
look_next {P} meld limits h found items r n ranks legal begins more is count all = rw is (go (nat_eq n ranks) refl)
  where
    one : n ≡ length found + 1
    one = count ∙ (ap length is ∙ length-append found (r ∷ []))

    go : (b : Bool) → nat_eq n ranks ≡ b → LookIs limits b (found ++ r ∷ []) h
    go true e =
        let same = eqb-true n ranks e in
        full_found (found ++ r ∷ []) (failures h) begins (omega (arith, failures_le meld limits h legal, same, all, one, length-append found (r ∷ [])))
    go false e =
        let differ = eqb-false n ranks e in
        let fewer : n < ranks = omega (arith, differ, more, one, all) in
        (begins, omega (arith, fewer, one, all, length-append found (r ∷ [])))
