-- A round is spawned once, and a mask has one least id.
use Rattle.std.proofs.Common.{◌≡◌, ◌⊎◌, ℕ, zero, suc, ◌+◌, ◌<◌, ◌≤◌, ◌^◌, ◌==◌, ◌&&◌, Bool, true, false, cond, List, [], ◌∷◌, ◌++◌, length, Some, None, slice_get, refl, ap, sym, ◌∙◌, subst, arith, append-nil, inl, inr, filter}
use Rattle.ulfm_laws.specs.Ranges.{payload_bits}
use Rattle.std.specs.Prelude.{unwrap_or}
use Rattle.std.specs.Int.{bit_at}
use Rattle.std.specs.List.{cons_option, list_any, position_from}
use Rattle.std.proofs.lemmas.Bool.{and_parts, cases_lt, eqb-true, or_parts}
use Rattle.std.proofs.lemmas.List.Elements.{filter-append}
use Rattle.std.proofs.lemmas.Nat.Bits.{bit_at_above}
use Rattle.ulfm_model.specs.declared.limits.Limits.{Limits}
use Rattle.ulfm_model.specs.declared.event.Event.{Event}
use Rattle.ulfm_model.specs.declared.event.Event.TheVariants.{Fail, Settle, Mark, Arrive, Revoke, Spawn}
use Rattle.ulfm_model.specs.History.{History, spawns}
use Rattle.ulfm_model.specs.History.{IsLegal, MayFollow, is_made}
use Rattle.ulfm_model.specs.Computed.{lowest_id}
use Rattle.ulfm_model.specs.Records.{IsLowestId}
use Rattle.ulfm_model.proofs.LowestId.{first_found}
use Rattle.ulfm_model.proofs.OneEvent.{made_by}
use Rattle.ulfm_model.proofs.Histories.{by_events, spawns_push}

filter_of_none : {X : Type 0} (p : X → Bool) (xs : List X) → list_any p xs ≡ false → filter p xs ≡ []
filter_of_none p [] none = refl
filter_of_none p (x ∷ xs) none =
    let parts = or_parts (p x) (list_any p xs) none in
    ap (λ b. cond b (x ∷ filter p xs) (filter p xs)) parts.0 ∙ filter_of_none p xs parts.1

-- no element passes, so no place is found
pub position_none : {X : Type 0} (p : X → Bool) (xs : List X) (n : ℕ) → list_any p xs ≡ false → position_from p n xs ≡ None
position_none p [] n none = refl
position_none p (x ∷ xs) n none =
    let parts = or_parts (p x) (list_any p xs) none in
    ap (λ b. cond b (Some n) (position_from p (n + 1) xs)) parts.0 ∙ position_none p xs (n + 1) parts.1

-- an element that passes is counted
passes_some : {X : Type 0} (p : X → Bool) (xs : List X) (i : ℕ) (y : X) → slice_get xs i ≡ Some y → p y ≡ true → 0 < length (filter p xs)
passes_some p [] i y at passes = absurd (cc at)
passes_some {X = X} p (x ∷ xs) zero y at passes =
    let here : p x ≡ true = ap p (cc at) ∙ passes in
    subst (λ (b : Bool). 0 < length (cond b (x ∷ filter p xs) (filter p xs))) (sym here) (omega arith)
passes_some p (x ∷ xs) (suc i) y at passes =
    let rest = passes_some p xs i y at passes in
    elim (p x) as (λ b. 0 < length (cond b (x ∷ filter p xs) (filter p xs))) [ true ↦ omega arith | false ↦ rest ]

-- where at most one element passes, its place is the one that is found
pub position_of : {X : Type 0} (p : X → Bool) (xs : List X) (n i : ℕ) (y : X) → length (filter p xs) ≤ 1 → slice_get xs i ≡ Some y → p y ≡ true → position_from p n xs ≡ Some (n + i)
position_of p [] n i y once at passes = absurd (cc at)
position_of {X = X} p (x ∷ xs) n zero y once at passes =
    let here : p x ≡ true = ap p (cc at) ∙ passes in
    let same : n ≡ n + 0 = omega arith in
    ap (λ (b : Bool). cond b (Some n) (position_from p (n + 1) xs)) here ∙ ap Some same
position_of {X = X} p (x ∷ xs) n (suc i) y once at passes = go (λ once. position_of p xs (n + 1) i y once at passes) (p x) once
  where
    go : (length (filter p xs) ≤ 1 → position_from p (n + 1) xs ≡ Some (n + 1 + i)) → (b : Bool) → length (cond b (x ∷ filter p xs) (filter p xs)) ≤ 1 → cond b (Some n) (position_from p (n + 1) xs) ≡ Some (n + suc i)
    go later true once = absurd (omega (arith, once, passes_some p xs i y at passes))
    go later false once = let same : n + 1 + i ≡ n + suc i = omega arith in later once ∙ ap Some same

-- whether a communicator was made of this round
abbrev pub is_of : ℕ → ℕ → ℕ × ℕ → Bool
is_of c k made = (made.0 == c) && (made.1 == k)

-- each round is spawned at most once
pub spawns_once : {P : Type 0} (meld : P → P → P) (limits : Limits) (h : History P) → IsLegal meld limits h → (c k : ℕ) → length (filter (is_of c k) (spawns h)) ≤ 1
spawns_once {P = P} meld limits h legal =
    by_events meld limits (λ w. (c k : ℕ) → length (filter (is_of c k) (spawns w)) ≤ 1) (λ c k. omega arith)
    (λ w e lw q may c k. subst (λ xs. length (filter (is_of c k) xs) ≤ 1) (sym (spawns_push w e)) (more w e.event c k may (q c k))) h legal
  where
    same : (w : History P) (ev : Event P) (c k : ℕ) → made_by ev ≡ None → length (filter (is_of c k) (spawns w)) ≤ 1 → length (filter (is_of c k) (spawns w ++ [])) ≤ 1
    same w ev c k none once = subst (λ xs. length (filter (is_of c k) xs) ≤ 1) (sym (append-nil (spawns w))) once

    new : (w : History P) (parent round c k : ℕ) → is_made w parent round ≡ false → length (filter (is_of c k) (spawns w)) ≤ 1 → (b : Bool) → is_of c k (parent, round) ≡ b
        → length (filter (is_of c k) (spawns w) ++ cond b ((parent, round) ∷ []) []) ≤ 1
    new w parent round c k first once true is =
        let parts = and_parts (parent == c) (round == k) is in
        let this : is_made w c k ≡ false = subst (λ d. is_made w d k ≡ false) (eqb-true parent c parts.0) (subst (λ d. is_made w parent d ≡ false) (eqb-true round k parts.1) first) in
        subst (λ (xs : List (ℕ × ℕ)). length (xs ++ (parent, round) ∷ []) ≤ 1) (sym (filter_of_none (is_of c k) (spawns w) this)) (omega arith)
    new w parent round c k first once false is = subst (λ (xs : List (ℕ × ℕ)). length xs ≤ 1) (sym (append-nil (filter (is_of c k) (spawns w)))) once

    more : (w : History P) (ev : Event P) (c k : ℕ) → MayFollow meld limits w ev → length (filter (is_of c k) (spawns w)) ≤ 1 → length (filter (is_of c k) (spawns w ++ cons_option (made_by ev) [])) ≤ 1
    more w (Fail rank) c k may once = same w (Fail rank) c k refl once
    more w (Settle comm round rank given) c k may once = same w (Settle comm round rank given) c k refl once
    more w (Mark comm round rank mark) c k may once = same w (Mark comm round rank mark) c k refl once
    more w (Arrive comm round rank) c k may once = same w (Arrive comm round rank) c k refl once
    more w (Revoke comm) c k may once = same w (Revoke comm) c k refl once
    more w (Spawn j parent round) c k may once =
        subst (λ (xs : List (ℕ × ℕ)). length xs ≤ 1) (sym (filter-append (is_of c k) (spawns w) ((parent, round) ∷ []))) (new w parent round c k may.first once (is_of c k (parent, round)) refl)

-- the least id is the one that is computed
pub lowest_is : (mask i : ℕ) → mask < 2 ^ payload_bits → IsLowestId mask i → i ≡ lowest_id mask
lowest_is mask i fits lowest = sym (ap (λ o. unwrap_or o 0) (first_found (λ k. bit_at mask k == 1) payload_bits i (within (cases_lt i payload_bits)) (ap (λ b. b == 1) lowest.in_it) (λ k below. ap (λ b. b == 1) (lowest.least k below))))
  where
    within : (i < payload_bits) ⊎ (payload_bits ≤ i) → i < payload_bits
    within (inl less) = less
    within (inr above) = let none = bit_at_above mask payload_bits i fits above in absurd (omega (arith, none, lowest.in_it))
