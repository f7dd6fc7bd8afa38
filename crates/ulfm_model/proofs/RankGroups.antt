-- The numbers of the first ranks, in order, and how many members a communicator has.
use Rattle.std.proofs.Common.{◌≡◌, ◌⊎◌, inl, inr, ℕ, zero, suc, ◌+◌, ◌<◌, ◌≤◌, ◌==◌, Bool, true, false, not, if◌then◌else◌, List, [], ◌∷◌, ◌++◌, length, get_or, Option, Some, None, refl, sym, ◌∙◌, arith, length-append}
use Rattle.std.specs.Prelude.{reverse}
use Rattle.std.proofs.Math.Seq.{get_or-append_seam}
use Rattle.std.proofs.lemmas.Bool.{cases_lt, eq-eqb, or_left, or_right}
use Rattle.std.proofs.lemmas.List.{get_or_append_left}
use Rattle.std.proofs.lemmas.List.Folds.{list_any-append}
use Rattle.ulfm_model.specs.declared.event.Entry.{Entry}
use Rattle.ulfm_model.specs.History.{History, first_ranks, has, members, members_after, members_by, spawns, without}
use Rattle.ulfm_model.specs.Terms.{group_among}
use Rattle.ulfm_model.proofs.{Lists.{length-filter-le}, OneEvent.{made_by}}

-- there are as many first ranks as are asked for
pub first_length : (n : ℕ) → length (first_ranks n) ≡ n
first_length zero = refl
first_length (suc n) = length-append (first_ranks n) (n ∷ []) ∙ omega (arith, first_length n)

-- each rank stands at its own number
pub first_at : (n k : ℕ) → k < n → get_or (first_ranks n) k 0 ≡ k
first_at zero k lt = absurd (omega arith)
first_at (suc n) k lt = go (first_at n k) (cases_lt k n)
  where
    go : (k < n → get_or (first_ranks n) k 0 ≡ k) → (k < n) ⊎ (n ≤ k) → get_or (first_ranks n ++ n ∷ []) k 0 ≡ k
    go before (inl below) = get_or_append_left (first_ranks n) (n ∷ []) 0 k (omega (arith, below, first_length n)) ∙ before below
    go before (inr last) =
        let here : k ≡ length (first_ranks n) = omega (arith, lt, last, first_length n) in
        rw here (get_or-append_seam (first_ranks n) n [] 0 ∙ sym (first_length n))

-- each rank below their count is among them
pub first_has : (n k : ℕ) → k < n → has (first_ranks n) k ≡ true
first_has zero k within = absurd (omega (arith, within))
first_has (suc n) k within =
    list_any-append (λ x. x == k) (first_ranks n) (n ∷ [])
    ∙ elim (cases_lt k n) [
      | inl less ↦ or_left (has (first_ranks n) k) (has (n ∷ []) k) (first_has n k less)
      | inr more ↦ or_right (has (first_ranks n) k) (has (n ∷ []) k) (or_left (n == k) false (eq-eqb n k (omega (arith, within, more))))
    ]

few_by : {P : Type 0} (ranks : ℕ) (past : List (Entry P)) (c : ℕ) → length (members_by ranks past c) ≤ ranks
few_by ranks [] c = elim (c == 0) as (λ (b : Bool). length (if b then first_ranks ranks else []) ≤ ranks) [ true ↦ omega (arith, first_length ranks) | false ↦ omega arith ]
few_by ranks (e ∷ past) c = step (few_by ranks past) (made_by e.event)
  where
    step : ((c : ℕ) → length (members_by ranks past c) ≤ ranks) → (made : Option (ℕ × ℕ)) → length (members_after (members_by ranks past) (reverse past) made c) ≤ ranks
    step before None = before c
    step before (Some made) =
        let out = group_among (members_by ranks past made.0) (reverse past) made.0 made.1 in
        elim (c == length (spawns (reverse past)) + 1) as
        (λ (b : Bool). length (if b then without (members_by ranks past made.0) out else members_by ranks past c) ≤ ranks)
        [ true ↦ omega (arith, length-filter-le (λ x. not (has out x)) (members_by ranks past made.0), before made.0) | false ↦ before c ]

-- a communicator has no more members than the world
pub members_few : {P : Type 0} (ranks : ℕ) (h : History P) (c : ℕ) → length (members ranks h c) ≤ ranks
members_few ranks h c = few_by ranks (reverse h) c
