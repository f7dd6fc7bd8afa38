-- How many there may be.
use Rattle.std.proofs.Common.{◌≡◌, ℕ, ◌+◌, ◌<◌, ◌≤◌, Bool, true, false, cond, List, [], ◌∷◌, ◌++◌, length, filter_map, take, get_or, Option, Some, ap, ◌∙◌, arith}
use Rattle.std.specs.List.{cons_option, enumerate_from, list_any, position_from}
use Rattle.std.proofs.lemmas.List.{take_more}
use Rattle.std.proofs.lemmas.List.Elements.{filter_map-append}
use Rattle.std.proofs.lemmas.List.FromFn.{get_or-enumerate_from, length-enumerate_from}
use Rattle.ulfm_model.specs.History.{History, decision, failed, failures, has, known_of, members, round}
use Rattle.ulfm_model.proofs.Lists.{length-filter-le}

-- a failed group is no longer than the list of failures
pub failed_few : {P : Type 0} (ranks : ℕ) (h : History P) (c : ℕ) → length (failed ranks h c) ≤ length (failures h)
failed_few ranks h c = length-filter-le (has (members ranks h c)) (failures h)

-- nor is the group of a decision
pub decision_few : {P : Type 0} (meld : P → P → P) (ranks : ℕ) (h : History P) (c k : ℕ) → length (decision meld ranks h c k).failed ≤ length (failures h)
decision_few meld ranks h c k =
    let group = failed ranks h c in
    omega (arith, length-filter-le (λ r. list_any (λ s. has (take (known_of s) group) r) (round ranks h c k)) group, failed_few ranks h c)

-- a place in a list is below its length
pub place_within : {X : Type 0} (p : X → Bool) (n : ℕ) (xs : List X) (i : ℕ) → position_from p n xs ≡ Some i → i < n + length xs
place_within p n [] i e = absurd (cc e)
place_within p n (x ∷ xs) i e =
    elim (p x) as (λ b. cond b (Some n) (position_from p (n + 1) xs) ≡ Some i → i < n + length (x ∷ xs))
    [ true ↦ λ e. (let same : n ≡ i = cc e in omega (arith, same)) | false ↦ λ e. omega (arith, place_within p (n + 1) xs i e) ] e

-- one more of the numbered elements, where they are counted from 1
pub numbered_more : {Y : Type 0} (f : ℕ × ℕ → Option Y) (xs : List ℕ) (i : ℕ) → i < length xs
    → filter_map f (take (i + 1) (enumerate_from 1 xs)) ≡ filter_map f (take i (enumerate_from 1 xs)) ++ cons_option (f (i + 1, get_or xs i 0)) []
numbered_more f xs i within =
    let d : ℕ × ℕ = (0, 0) in
    let place : 1 + i ≡ i + 1 = omega arith in
    ap (filter_map f) (take_more (enumerate_from 1 xs) i d (omega (arith, within, length-enumerate_from 1 xs)))
    ∙ (filter_map-append f (take i (enumerate_from 1 xs)) (get_or (enumerate_from 1 xs) i d ∷ [])
    ∙ ap (λ p. filter_map f (take i (enumerate_from 1 xs)) ++ cons_option (f p) []) (get_or-enumerate_from 1 xs i d within ∙ ap (λ n. (n, get_or xs i 0)) place))
