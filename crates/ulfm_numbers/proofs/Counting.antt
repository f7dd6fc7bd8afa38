-- How many of some rising numbers there are before a point, and what stands there.
use Rattle.std.proofs.Common.{◌≡◌, ◌<◌, ◌≤◌, ◌+◌, ℕ, zero, suc, Bool, true, false, List, [], ◌∷◌, ◌++◌, length, map, take, filter, filter_map, length-append, nat_lt, Option, Some, None, if◌then◌else◌, refl, sym, ap, ap₂, ◌∙◌, subst, get_or, arith}
use Rattle.std.specs.Option.{option_map}
use Rattle.std.specs.List.{cons_option}
use Rattle.std.proofs.lemmas.Bool.{lt-ltb, ltb-true}
use Rattle.std.proofs.lemmas.List.Elements.{filter-append}
use Rattle.ulfm_model.specs.History.{has}
use Rattle.ulfm_model.proofs.Lists.{length-filter-le}
use Rattle.ulfm_numbers.specs.declared.groups.Group.{Group}
use Rattle.ulfm_numbers.specs.{Failed.{AreFailed, IsFailed, in_group, members_of}, Groups.{group_at}}
use Rattle.ulfm_numbers.specs.Numbers.{AreBefore, count_by, numbers_from}
use Rattle.ulfm_numbers.proofs.Tabling.{given_at}

-- numbers below a point are below a later one
pub before_later : (end point : ℕ) (xs : List ℕ) → end ≤ point → AreBefore end xs → AreBefore point xs
before_later end point [] le are = refl
before_later end point (x ∷ xs) le are = go (nat_lt x end) refl (λ rest. before_later end point xs le rest)
  where
    short : length (filter (λ n. nat_lt n end) xs) ≤ length xs
    short = length-filter-le (λ n. nat_lt n end) xs

    go : (b : Bool) → nat_lt x end ≡ b → (AreBefore end xs → AreBefore point xs) → AreBefore point (x ∷ xs)
    go true is more =
        let first : length (x ∷ filter (λ n. nat_lt n end) xs) ≡ length (x ∷ xs) = sym (ap (λ (b : Bool). length (if b then x ∷ filter (λ n. nat_lt n end) xs else filter (λ n. nat_lt n end) xs)) is) ∙ are in
        let rest : AreBefore end xs = omega (arith, first) in
        let below : x < end = ltb-true x end is in
        ap (λ (b : Bool). length (if b then x ∷ filter (λ n. nat_lt n point) xs else filter (λ n. nat_lt n point) xs)) (lt-ltb x point (omega (arith, below, le)))
        ∙ ap suc (more rest)
    go false is more =
        let first : length (filter (λ n. nat_lt n end) xs) ≡ length (x ∷ xs) = sym (ap (λ (b : Bool). length (if b then x ∷ filter (λ n. nat_lt n end) xs else filter (λ n. nat_lt n end) xs)) is) ∙ are in
        absurd (omega (arith, first, short))

-- one more number, which is the point
pub before_push : (n : ℕ) (xs : List ℕ) → AreBefore n xs → AreBefore (n + 1) (xs ++ n ∷ [])
before_push n xs are =
    let kept : AreBefore (n + 1) xs = before_later n (n + 1) xs (omega arith) are in
    let both : length (filter (λ m. nat_lt m (n + 1)) (xs ++ n ∷ [])) ≡ length (filter (λ m. nat_lt m (n + 1)) xs) + length (filter (λ m. nat_lt m (n + 1)) (n ∷ [])) =
    ap length (filter-append (λ m. nat_lt m (n + 1)) xs (n ∷ [])) ∙ length-append (filter (λ m. nat_lt m (n + 1)) xs) (filter (λ m. nat_lt m (n + 1)) (n ∷ [])) in
    let one : length (filter (λ m. nat_lt m (n + 1)) (n ∷ [])) ≡ 1 = ap (λ (b : Bool). length (if b then n ∷ [] else [])) (lt-ltb n (n + 1) (omega arith)) in
    both ∙ (ap₂ (λ a b. a + b) kept one ∙ sym (length-append xs (n ∷ [])))

-- numbers of entries are below the number of the one that comes next
pub numbers_before : {X Y : Type 0} (f : X → Option Y) (n : ℕ) (xs : List X) → AreBefore (n + length xs) (numbers_from f n xs)
numbers_before f n [] = refl
numbers_before {X} {Y} f n (x ∷ xs) = go (f x) (numbers_before f (n + 1) xs)
  where
    same : n + 1 + length xs ≡ n + length (x ∷ xs)
    same = omega arith

    go : (o : Option Y) → AreBefore (n + 1 + length xs) (numbers_from f (n + 1) xs) → AreBefore (n + length (x ∷ xs)) (cons_option (option_map (λ y. n) o) (numbers_from f (n + 1) xs))
    go None later = sym (ap (λ m. count_by m (numbers_from f (n + 1) xs)) same) ∙ later
    go (Some y) later =
        let rest : AreBefore (n + length (x ∷ xs)) (numbers_from f (n + 1) xs) = sym (ap (λ m. count_by m (numbers_from f (n + 1) xs)) same) ∙ later in
        ap (λ (b : Bool). length (if b then n ∷ filter (λ m. nat_lt m (n + length (x ∷ xs))) (numbers_from f (n + 1) xs) else filter (λ m. nat_lt m (n + length (x ∷ xs))) (numbers_from f (n + 1) xs)))
        (lt-ltb n (n + length (x ∷ xs)) (omega arith)) ∙ ap suc rest

-- who is in a group
pub in_group_is : (group xs : List ℕ) → filter_map (in_group group) xs ≡ filter (has group) xs
in_group_is group [] = refl
in_group_is group (x ∷ xs) = go (has group x) (in_group_is group xs)
  where
    go : (b : Bool) → filter_map (in_group group) xs ≡ filter (has group) xs
        → cons_option (if b then Some x else None) (filter_map (in_group group) xs) ≡ (if b then x ∷ filter (has group) xs else filter (has group) xs)
    go true rest = ap (λ ys. x ∷ ys) rest
    go false rest = rest

-- who of the first so many failures is in a group
pub failed_first : (group : List ℕ) (n : ℕ) (xs : List ℕ) → filter (has group) (take n xs) ≡ take (count_by n (numbers_from (in_group group) 0 xs)) (filter (has group) xs)
failed_first group n xs =
    sym (in_group_is group (take n xs)) ∙ (given_at (in_group group) n xs ∙ ap (take (count_by n (numbers_from (in_group group) 0 xs))) (in_group_is group xs))

-- nobody is in the group of nobody
pub in_nobody : (xs : List ℕ) → filter (has []) xs ≡ []
in_nobody [] = refl
in_nobody (x ∷ xs) = in_nobody xs

module _ {A : Type 0} where
  -- the group that stands at a place is one of those there are
  pub group_there : (groups : List (Group A)) (c : ℕ) (g : Group A) → c < length groups → g ≡ get_or groups c g → group_at (map members_of groups) c ≡ members_of g
  group_there [] c g lt at = absurd (omega (arith, lt))
  group_there (h ∷ groups) zero g lt at = ap members_of (sym at)
  group_there (h ∷ groups) (suc c) g lt at = group_there groups c g (omega (arith, lt)) at

  -- none does
  pub no_group : (groups : List (Group A)) (c : ℕ) → length groups ≤ c → group_at (map members_of groups) c ≡ []
  no_group [] c le = refl
  no_group (h ∷ groups) zero le = absurd (omega (arith, le))
  no_group (h ∷ groups) (suc c) le = no_group groups c (omega (arith, le))

  -- each of the groups has its failures
  pub failed_there : (failures : List ℕ) (groups : List (Group A)) (c : ℕ) (g : Group A) → AreFailed failures groups → c < length groups → g ≡ get_or groups c g → IsFailed failures g
  failed_there failures [] c g are lt at = absurd (omega (arith, lt))
  failed_there failures (h ∷ groups) zero g are lt at = subst (IsFailed failures) (sym at) (cc are)
  failed_there failures (h ∷ groups) (suc c) g are lt at = failed_there failures groups c g (cc are) (omega (arith, lt)) at

  -- who of a group is among the first so many failures
  pub failed_among : (failures : List ℕ) (g : Group A) (n : ℕ) → IsFailed failures g → take (count_by n g.places.items) g.failed.items ≡ filter (has (members_of g)) (take n failures)
  failed_among failures g n is =
      ap₂ (λ (ns xs : List ℕ). take (count_by n ns) xs) (ap (λ (p : List ℕ × List ℕ). p.1) is) (ap (λ (p : List ℕ × List ℕ). p.0) is)
      ∙ sym (failed_first (members_of g) n failures)

  -- its failures stand before the next
  pub places_before : (failures : List ℕ) (g : Group A) → IsFailed failures g → AreBefore (length failures) g.places.items
  places_before failures g is =
      let same : 0 + length failures ≡ length failures = omega arith in
      let all = numbers_before (in_group (members_of g)) 0 failures in
      subst (AreBefore (length failures)) (sym (ap (λ (p : List ℕ × List ℕ). p.1) is)) (subst (λ n. AreBefore n (numbers_from (in_group (members_of g)) 0 failures)) same all)
