-- Groups whose ranks rise: a rank is found in them by a binary search.
use Rattle.std.proofs.Common.{◌≡◌, ◌⊎◌, inl, inr, ℕ, zero, suc, ◌+◌, ◌-◌, ◌<◌, ◌≤◌, nat_le, ◌==◌, ◌||◌, Bool, true, false, not, List, [], ◌∷◌, length, get_or, reverse, nat_cmp, Option, Some, None, Result, Ok, Err, refl, sym, subst, ◌∙◌, arith, if◌then◌else◌}
use Rattle.std.specs.Prelude.{is_ok}
use Rattle.std.specs.List.Sorted.{IsBinarySearchResult, IsStrictlyIncreasing}
use Rattle.std.proofs.lemmas.Bool.{cases_lt, eqb-true, le-leb, lt-leb}
use Rattle.std.proofs.lemmas.List.Kept.{IsStrictlyIncreasing-filter}
use Rattle.std.proofs.lemmas.List.Sorted.{searched}
use Rattle.std.proofs.lemmas.Map.Keys.{below_from_sorted, sorted_from_strictly_increasing}
use Rattle.ulfm_model.specs.declared.limits.Limits.{Limits}
use Rattle.ulfm_model.specs.History.{History, first_ranks, has, members, members_after, members_by, says, spawns, without}
use Rattle.ulfm_model.specs.Terms.{group_among}
use Rattle.ulfm_model.proofs.RankGroups.{first_at, first_length}
use Rattle.ulfm_steps.specs.Rounds.{IsRoundOf}
use Rattle.ulfm_steps.proofs.Reading.{has_at}

-- where a member stands
place_of : (xs : List ℕ) (x : ℕ) → has xs x ≡ true → (k : ℕ) × (k < length xs) × (get_or xs k 0 ≡ x)
place_of [] x e = absurd (cc e)
place_of (y ∷ xs) x e = go (place_of xs x) (y == x) refl e
  where
    go : (has xs x ≡ true → (k : ℕ) × (k < length xs) × (get_or xs k 0 ≡ x)) → (b : Bool) → (y == x) ≡ b → (b || has xs x) ≡ true → (k : ℕ) × (k < length (y ∷ xs)) × (get_or (y ∷ xs) k 0 ≡ x)
    go rest true same e = (0, omega arith, eqb-true y x same)
    go rest false differ e = let at = rest e in (suc at.0, omega (arith, at.1), at.2)

rising : (xs : List ℕ) → IsStrictlyIncreasing xs → (i j : ℕ) → i ≤ j → j < length xs → get_or xs i 0 ≤ get_or xs j 0
rising xs rises i j le lt = go (same_or i j le)
  where
    same_or : (i j : ℕ) → i ≤ j → (i < j) ⊎ (i ≡ j)
    same_or i j le = grind arith

    go : (i < j) ⊎ (i ≡ j) → get_or xs i 0 ≤ get_or xs j 0
    go (inl below) = let less = below_from_sorted xs i j 0 (sorted_from_strictly_increasing xs rises) below lt in omega (arith, less)
    go (inr same) = rw same (omega arith)

-- a search finds the members and nobody else
pub search_finds : (xs : List ℕ) (x : ℕ) (r : Result ℕ ℕ) → IsBinarySearchResult (λ y. nat_cmp y x) xs r → IsStrictlyIncreasing xs → is_ok r ≡ has xs x
search_finds xs x (Ok i) found rises =
    let at = searched xs x (Ok i) found (rising xs rises) in
    sym (subst (λ y. has xs y ≡ true) at.1 (has_at xs i 0 at.0))
search_finds xs x (Err i) found rises = go (has xs x) refl
  where
    apart : (k : ℕ) → k < length xs → get_or xs k 0 ≡ x → (k < i) ⊎ (i ≤ k) → ⊥
    apart k lt is (inl below) = let less = (searched xs x (Err i) found (rising xs rises)).1 k below in absurd (omega (arith, less, is))
    apart k lt is (inr above) = let more = (searched xs x (Err i) found (rising xs rises)).2 k above lt in absurd (omega (arith, more, is))

    either : (a b : ℕ) → (a < b) ⊎ (b ≤ a)
    either a b = grind arith

    go : (b : Bool) → has xs x ≡ b → false ≡ b
    go true e = let at = place_of xs x e in absurd (apart at.0 at.1 at.2 (either at.0 i))
    go false e = refl

-- ranks that rise grow by one at least from each to the next
rises_by : (xs : List ℕ) → IsStrictlyIncreasing xs → (i d : ℕ) → i + d < length xs → get_or xs i 0 + d ≤ get_or xs (i + d) 0
rises_by xs rises i zero lt =
    let same : i ≡ i + 0 = omega arith in
    subst (λ n. get_or xs i 0 + 0 ≤ get_or xs n 0) same (omega arith)
rises_by xs rises i (suc d) lt =
    let rest = rises_by xs rises i d (omega (arith, lt)) in
    let next : get_or xs (i + d) 0 < get_or xs (i + d + 1) 0 = rises (i + d) (omega (arith, lt)) in
    let place : i + d + 1 ≡ i + suc d = omega arith in
    subst (λ n. get_or xs i 0 + suc d ≤ get_or xs n 0) place (omega (arith, rest, next))

-- so each stands at the place of its own number, where the last one does
whole_at : (xs : List ℕ) (last : ℕ) → IsStrictlyIncreasing xs → get_or xs (length xs - 1) 0 ≡ last → last + 1 ≡ length xs → (i : ℕ) → i ≤ last → get_or xs i 0 ≡ i
whole_at xs last rises end all i le =
    let none : 0 + i ≡ i = omega arith in
    let below = subst (λ n. get_or xs 0 0 + i ≤ get_or xs n 0) none (rises_by xs rises 0 i (omega (arith, all, le))) in
    let place : i + (last - i) ≡ length xs - 1 = omega (arith, all, le) in
    let most = subst (λ n. get_or xs i 0 + (last - i) ≤ get_or xs n 0) place (rises_by xs rises i (last - i) (omega (arith, all, le))) in
    omega (arith, below, most, end, le)

-- nobody was left out of a group whose ranks rise, where its last rank is its length less one: its members are the ranks up to that one
pub whole_has : (xs : List ℕ) (last : ℕ) → IsStrictlyIncreasing xs → get_or xs (length xs - 1) 0 ≡ last → last + 1 ≡ length xs → (rank : ℕ) → has xs rank ≡ nat_le rank last
whole_has xs last rises end all rank = go (cases_lt last rank)
  where
    out : last < rank → (b : Bool) → has xs rank ≡ b → b ≡ false
    out beyond true e =
        let at = place_of xs rank e in
        let is = whole_at xs last rises end all at.0 (omega (arith, all, at.1)) in
        absurd (omega (arith, beyond, all, at.1, at.2, is))
    out beyond false e = refl

    go : (last < rank) ⊎ (rank ≤ last) → has xs rank ≡ nat_le rank last
    go (inl beyond) = out beyond (has xs rank) refl ∙ sym (lt-leb rank last beyond)
    go (inr within) =
        let is = whole_at xs last rises end all rank within in
        subst (λ y. has xs y ≡ true) is (has_at xs rank 0 (omega (arith, all, within))) ∙ sym (le-leb rank last within)

first_rise : (n : ℕ) → IsStrictlyIncreasing (first_ranks n)
first_rise n k lt =
    let one = first_at n k (omega (arith, lt, first_length n)) in
    let next = first_at n (k + 1) (omega (arith, lt, first_length n)) in
    omega (arith, one, next)

none_rise : IsStrictlyIncreasing []
none_rise k lt = absurd (omega (arith, lt))

-- the members of each communicator rise
module _ {P : Type 0} (ranks : ℕ) where
  rise_by : (past : History P) (c : ℕ) → IsStrictlyIncreasing (members_by ranks past c)
  rise_by [] c = elim (c == 0) as (λ b. IsStrictlyIncreasing (if b then first_ranks ranks else [])) [ true ↦ first_rise ranks | false ↦ none_rise ]
  rise_by (e ∷ past) c = go (rise_by past) (says e.event).makes
    where
      go : ((c : ℕ) → IsStrictlyIncreasing (members_by ranks past c)) → (made : Option (ℕ × ℕ)) → IsStrictlyIncreasing (members_after (members_by ranks past) (reverse past) made c)
      go earlier None = earlier c
      go earlier (Some made) =
          let parent = members_by ranks past made.0 in
          let group = group_among parent (reverse past) made.0 made.1 in
          elim (c == length (spawns (reverse past)) + 1) as (λ b. IsStrictlyIncreasing (if b then without parent group else members_by ranks past c)) [
            | true ↦ IsStrictlyIncreasing-filter (λ x. not (has group x)) parent (earlier made.0)
            | false ↦ earlier c
          ]

  pub members_rise : (h : History P) (c : ℕ) → IsStrictlyIncreasing (members ranks h c)
  members_rise h c = rise_by (reverse h) c

-- .. and so do those of a round
pub round_rises : {P : Type 0} (limits : Limits) (h : History P) (c k : ℕ) (group : List ℕ) → IsRoundOf limits h c k group → IsStrictlyIncreasing group
round_rises limits h c k group round = subst IsStrictlyIncreasing (sym round.group_is) (members_rise limits.ranks h c)
