-- Lemmas on lists that the proofs on histories cite.
use Rattle.std.proofs.Common.{◌≡◌, ℕ, zero, suc, ◌<◌, ◌≤◌, Bool, true, false, cond, ◌||◌, ◌&&◌, ◌==◌, List, [], ◌∷◌, ◌++◌, map, reverse, length, take, Option, Some, None, is_some, slice_get, refl, ap, ap₂, sym, ◌∙◌, subst, arith, length-append, filter, filter_map, nat_eq, append_assoc}
use Rattle.std.specs.List.{list_any, list_all, cons_option, AllByRecursion, IsDistinct}
use Rattle.std.specs.Prelude.{find}
use Rattle.std.proofs.lemmas.Map.Keys.{IsDistinct-head, IsDistinct-tail, IsDistinct-cons}
use Rattle.std.proofs.lemmas.List.{reverse-append}
use Rattle.std.proofs.lemmas.Bool.{and_parts, or_parts, or_from, and_from, or_left, or_right, eqb-true, eq-eqb}
use Rattle.std.proofs.lemmas.List.Folds.{list_any-append}
use mathlib.Core.List.{IsPrefix}
use Rattle.ulfm_model.specs.History.{has}

-- only the empty list lacks a first element
pub none_first : {Y : Type 0} (xs : List Y) → slice_get xs 0 ≡ None → xs ≡ []
none_first [] e = refl
none_first (x ∷ xs) e = absurd cc

-- an option that is something has a value
pub is_some_of : {Y : Type 0} (o : Option Y) → is_some o ≡ true → (y : Y) × (o ≡ Some y)
is_some_of None e = absurd cc
is_some_of (Some y) e = (y, refl)

module _ {X Y : Type 0} where
  -- g keeps the same list as f, where f keeps each element and g agrees with it
  pub filter_map_same : (f g : X → Option Y) → ((x : X) (y : Y) → f x ≡ Some y → g x ≡ Some y) → (xs : List X) → list_all (λ x. is_some (f x)) xs ≡ true → filter_map g xs ≡ filter_map f xs
  filter_map_same f g same [] all = refl
  filter_map_same f g same (x ∷ xs) all =
      let parts = and_parts (is_some (f x)) (list_all (λ x. is_some (f x)) xs) all in
      let here = is_some_of (f x) parts.0 in
      let there = same x here.0 here.1 in
      let rest = filter_map_same f g same xs parts.1 in
      ap₂ cons_option (there ∙ sym here.1) rest

  -- and then g keeps each element too
  pub all_some : (f g : X → Option Y) → ((x : X) (y : Y) → f x ≡ Some y → g x ≡ Some y) → (xs : List X) → list_all (λ x. is_some (f x)) xs ≡ true → list_all (λ x. is_some (g x)) xs ≡ true
  all_some f g same [] all = refl
  all_some f g same (x ∷ xs) all =
      let parts = and_parts (is_some (f x)) (list_all (λ x. is_some (f x)) xs) all in
      let here = is_some_of (f x) parts.0 in
      and_from (is_some (g x)) (list_all (λ x. is_some (g x)) xs) (ap is_some (same x here.0 here.1)) (all_some f g same xs parts.1)

  -- a fact of every value of f holds of the values that it keeps
  pub each_filter_map : (f : X → Option Y) (P : Y → Type 0) → ((x : X) (y : Y) → f x ≡ Some y → P y) → (xs : List X) → AllByRecursion P (filter_map f xs)
  each_filter_map f P each [] = tt
  each_filter_map f P each (x ∷ xs) =
      let rest = each_filter_map f P each xs in
      elim (f x) as (λ o. ((y : Y) → o ≡ Some y → P y) → AllByRecursion P (cons_option o (filter_map f xs)))
      [ None ↦ λ here. rest | Some y ↦ λ here. (here y refl, rest) ] (each x)

  -- a fact of the elements gives a fact of what f keeps of them
  pub filter_map_each : (f : X → Option Y) (P : X → Type 0) (Q : Y → Type 0) → ((x : X) (y : Y) → P x → f x ≡ Some y → Q y) → (xs : List X) → AllByRecursion P xs → AllByRecursion Q (filter_map f xs)
  filter_map_each f P Q each [] all = tt
  filter_map_each f P Q each (x ∷ xs) all =
      let rest = filter_map_each f P Q each xs all.1 in
      elim (f x) as (λ o. ((y : Y) → o ≡ Some y → Q y) → AllByRecursion Q (cons_option o (filter_map f xs)))
      [ None ↦ λ here. rest | Some y ↦ λ here. (here y refl, rest) ] (λ y. each x y all.0)

  -- functions that agree on a list map it alike
  pub map_same : (f g : X → Y) (xs : List X) → AllByRecursion (λ x. g x ≡ f x) xs → map g xs ≡ map f xs
  map_same f g [] all = refl
  map_same f g (x ∷ xs) all = ap₂ (λ y ys. y ∷ ys) all.0 (map_same f g xs all.1)

-- a fact of each element gives what follows from it
pub each_from : {X : Type 0} (P Q : X → Type 0) → ((x : X) → P x → Q x) → (xs : List X) → AllByRecursion P xs → AllByRecursion Q xs
each_from P Q imp [] all = tt
each_from P Q imp (x ∷ xs) all = (imp x all.0, each_from P Q imp xs all.1)

-- tests that agree on a list find alike
pub any_same : {X : Type 0} (p q : X → Bool) (xs : List X) → AllByRecursion (λ x. q x ≡ p x) xs → list_any q xs ≡ list_any p xs
any_same p q [] all = refl
any_same p q (x ∷ xs) all = ap₂ (λ a b. a || b) all.0 (any_same p q xs all.1)

-- where no element passes, none is found
pub any_none : {X : Type 0} (p : X → Bool) (xs : List X) → AllByRecursion (λ x. p x ≡ false) xs → list_any p xs ≡ false
any_none p [] all = refl
any_none p (x ∷ xs) all = or_from (p x) (list_any p xs) all.0 (any_none p xs all.1)

-- where no element passes, nothing is kept
pub filter_none : {X : Type 0} (p : X → Bool) (xs : List X) → AllByRecursion (λ x. p x ≡ false) xs → filter p xs ≡ []
filter_none p [] all = refl
filter_none p (x ∷ xs) all = ap (λ b. cond b (x ∷ filter p xs) (filter p xs)) all.0 ∙ filter_none p xs all.1

-- a rank outside a list is outside its beginnings
pub not_in_take : (n : ℕ) (xs : List ℕ) (r : ℕ) → has xs r ≡ false → has (take n xs) r ≡ false
not_in_take zero xs r out = refl
not_in_take (suc n) [] r out = refl
not_in_take (suc n) (x ∷ xs) r out =
    let parts = or_parts (x == r) (has xs r) out in or_from (x == r) (has (take n xs) r) parts.0 (not_in_take n xs r parts.1)

-- a filter brings in nobody from outside
pub not_in_filter : (p : ℕ → Bool) (xs : List ℕ) (r : ℕ) → has xs r ≡ false → has (filter p xs) r ≡ false
not_in_filter p [] r out = refl
not_in_filter p (x ∷ xs) r out =
    let parts = or_parts (x == r) (has xs r) out in step (p x) parts.0 (not_in_filter p xs r parts.1)
  where
    step : (b : Bool) → (x == r) ≡ false → has (filter p xs) r ≡ false → has (cond b (x ∷ filter p xs) (filter p xs)) r ≡ false
    step true here rest = or_from (x == r) (has (filter p xs) r) here rest
    step false here rest = rest

-- the last element comes first in reverse
pub reverse_push : {X : Type 0} (xs : List X) (x : X) → reverse (xs ++ x ∷ []) ≡ x ∷ reverse xs
reverse_push xs x = reverse-append xs (x ∷ [])

-- an index at which an element stands is below the length
pub in_list : {X : Type 0} (xs : List X) (n : ℕ) (x : X) → slice_get xs n ≡ Some x → n < length xs
in_list [] n x e = absurd cc
in_list (y ∷ xs) zero x e = omega arith
in_list (y ∷ xs) (suc n) x e = omega (arith, in_list xs n x e)

-- what all have, those that are kept have
pub each_filter : {X : Type 0} (p : X → Bool) (P : X → Type 0) (xs : List X) → AllByRecursion P xs → AllByRecursion P (filter p xs)
each_filter p P [] all = tt
each_filter p P (x ∷ xs) all =
    let rest = each_filter p P xs all.1 in
    elim (p x) as (λ b. AllByRecursion P (cond b (x ∷ filter p xs) (filter p xs))) [ true ↦ (all.0, rest) | false ↦ rest ]

-- a fact of everything holds of each element
pub each_always : {X : Type 0} (P : X → Type 0) → ((x : X) → P x) → (xs : List X) → AllByRecursion P xs
each_always P all [] = tt
each_always P all (x ∷ xs) = (all x, each_always P all xs)

-- what all have, a beginning has
pub each_take : {X : Type 0} (P : X → Type 0) (n : ℕ) (xs : List X) → AllByRecursion P xs → AllByRecursion P (take n xs)
each_take P zero xs all = tt
each_take P (suc n) [] all = tt
each_take P (suc n) (x ∷ xs) all = (all.0, each_take P n xs all.1)

-- tests that agree on a list keep alike
pub filter_same : {X : Type 0} (p q : X → Bool) (xs : List X) → AllByRecursion (λ x. q x ≡ p x) xs → filter q xs ≡ filter p xs
filter_same p q [] all = refl
filter_same p q (x ∷ xs) all = ap₂ (λ b ys. cond b (x ∷ ys) ys) all.0 (filter_same p q xs all.1)

-- what holds of each of two lists holds of each of both
pub each_append : {X : Type 0} (Q : X → Type 0) (xs ys : List X) → AllByRecursion Q xs → AllByRecursion Q ys → AllByRecursion Q (xs ++ ys)
each_append Q [] ys all more = more
each_append Q (x ∷ xs) ys all more = (all.0, each_append Q xs ys all.1 more)

-- one more element that has what all have
pub each_push : {X : Type 0} (P : X → Type 0) (xs : List X) (x : X) → AllByRecursion P xs → P x → AllByRecursion P (xs ++ x ∷ [])
each_push P [] x all last = (last, tt)
each_push P (y ∷ xs) x all last = (all.0, each_push P xs x all.1 last)

-- filtering brings no repeats
pub distinct_filter : (p : ℕ → Bool) (xs : List ℕ) → IsDistinct nat_eq xs → IsDistinct nat_eq (filter p xs)
distinct_filter p [] distinct = distinct
distinct_filter p (x ∷ xs) distinct =
    let rest = distinct_filter p xs (IsDistinct-tail nat_eq x xs distinct) in
    let head = each_filter p (λ y. nat_eq x y ≡ false) xs (IsDistinct-head nat_eq x xs distinct) in
    elim (p x) as (λ b. IsDistinct nat_eq (cond b (x ∷ filter p xs) (filter p xs))) [ true ↦ IsDistinct-cons nat_eq x (filter p xs) head rest | false ↦ rest ]

-- beginnings of beginnings are beginnings
pub prefix_trans : {X : Type 0} (xs ys zs : List X) → IsPrefix xs ys → IsPrefix ys zs → IsPrefix xs zs
prefix_trans xs ys zs p q = (p.0 ++ q.0, sym (append_assoc xs p.0 q.0) ∙ (ap (λ w. w ++ q.0) p.1 ∙ q.1))

-- what stands at an index stays when more follows
pub get_stays : {X : Type 0} (xs ys : List X) (n : ℕ) (x : X) → slice_get xs n ≡ Some x → slice_get (xs ++ ys) n ≡ Some x
get_stays [] ys n x e = absurd cc
get_stays (z ∷ xs) ys zero x e = e
get_stays (z ∷ xs) ys (suc n) x e = get_stays xs ys n x e

-- a longer list has the same element at that index
pub get_prefix : {X : Type 0} (xs ys : List X) (n : ℕ) (x : X) → IsPrefix xs ys → slice_get xs n ≡ Some x → slice_get ys n ≡ Some x
get_prefix xs ys n x begins e = subst (λ w. slice_get w n ≡ Some x) begins.1 (get_stays xs begins.0 n x e)

-- a beginning is no longer than the list
pub length_prefix : {X : Type 0} (xs ys : List X) → IsPrefix xs ys → length xs ≤ length ys
length_prefix xs ys begins = omega (arith, sym (ap length begins.1) ∙ length-append xs begins.0)

-- whoever is in a beginning is in the list
pub has_prefix : (xs ys : List ℕ) (r : ℕ) → IsPrefix xs ys → has xs r ≡ true → has ys r ≡ true
has_prefix xs ys r begins is = ap (λ w. has w r) (sym begins.1) ∙ (list_any-append (λ x. nat_eq x r) xs begins.0 ∙ or_left (has xs r) (has begins.0 r) is)

-- whoever a filter kept passes its test
pub has_passes : (p : ℕ → Bool) (xs : List ℕ) (r : ℕ) → has (filter p xs) r ≡ true → p r ≡ true
has_passes p [] r e = absurd (cc e)
has_passes p (x ∷ xs) r e = go (has_passes p xs r) (p x) refl e
  where
    head : (b : Bool) → (x == r) ≡ b → p x ≡ true → (has (filter p xs) r ≡ true → p r ≡ true) → (b || has (filter p xs) r) ≡ true → p r ≡ true
    head true same is more e = subst (λ w. p w ≡ true) (eqb-true x r same) is
    head false same is more e = more e

    go : (has (filter p xs) r ≡ true → p r ≡ true) → (b : Bool) → p x ≡ b → has (cond b (x ∷ filter p xs) (filter p xs)) r ≡ true → p r ≡ true
    go more false is e = more e
    go more true is e = head (x == r) refl is more e

-- a filter keeps whoever passes its test
pub has_kept : (p : ℕ → Bool) (xs : List ℕ) (r : ℕ) → has xs r ≡ true → p r ≡ true → has (filter p xs) r ≡ true
has_kept p [] r e is = absurd (cc e)
has_kept p (x ∷ xs) r e is = go (λ e. has_kept p xs r e is) (x == r) refl (p x) refl e
  where
    go : (has xs r ≡ true → has (filter p xs) r ≡ true) → (a : Bool) → (x == r) ≡ a → (b : Bool) → p x ≡ b → (a || has xs r) ≡ true → has (cond b (x ∷ filter p xs) (filter p xs)) r ≡ true
    go more true same true is_in e = or_left (x == r) (has (filter p xs) r) same
    go more true same false is_in e = let kept : p x ≡ true = ap p (eqb-true x r same) ∙ is in absurd (cc (kept, is_in))
    go more false same true is_in e = or_right (x == r) (has (filter p xs) r) (more e)
    go more false same false is_in e = more e

-- a fact of all elements holds of a rank that is among them
pub at_member : (Q : ℕ → Type 0) (xs : List ℕ) (r : ℕ) → AllByRecursion Q xs → has xs r ≡ true → Q r
at_member Q [] r all e = absurd (cc e)
at_member Q (x ∷ xs) r all e = go (at_member Q xs r all.1) (x == r) refl e
  where
    go : (has xs r ≡ true → Q r) → (b : Bool) → (x == r) ≡ b → (b || has xs r) ≡ true → Q r
    go more true same e = subst Q (eqb-true x r same) all.0
    go more false same e = more e

-- what all members pass, each passes
pub all_member : (p : ℕ → Bool) (xs : List ℕ) (r : ℕ) → list_all p xs ≡ true → has xs r ≡ true → p r ≡ true
all_member p [] r all e = absurd (cc e)
all_member p (x ∷ xs) r all e =
    let parts = and_parts (p x) (list_all p xs) all in go (all_member p xs r parts.1) parts.0 (x == r) refl e
  where
    go : (has xs r ≡ true → p r ≡ true) → p x ≡ true → (b : Bool) → (x == r) ≡ b → (b || has xs r) ≡ true → p r ≡ true
    go more here true same e = ap p (sym (eqb-true x r same)) ∙ here
    go more here false same e = more e

-- where a test does not hold of all, some rank fails it
pub some_fails : (p : ℕ → Bool) (xs : List ℕ) → list_all p xs ≡ false → (r : ℕ) × (has xs r ≡ true) × (p r ≡ false)
some_fails p [] e = absurd (cc e)
some_fails p (x ∷ xs) e = go (λ e. some_fails p xs e) (p x) refl e
  where
    go : (list_all p xs ≡ false → (r : ℕ) × (has xs r ≡ true) × (p r ≡ false)) → (b : Bool) → p x ≡ b → (b && list_all p xs) ≡ false → (r : ℕ) × (has (x ∷ xs) r ≡ true) × (p r ≡ false)
    go more false is e = (x, or_left (x == x) (has xs x) (eq-eqb x x refl), is)
    go more true is e = let rest = more e in (rest.0, or_right (x == rest.0) (has xs rest.0) rest.1, rest.2)

-- an option that is nothing
pub none_of : {X : Type 0} (o : Option X) → is_some o ≡ false → o ≡ None
none_of None e = refl
none_of (Some x) e = absurd cc

-- the element that is found has what all have, and passes the test
pub find_holds : {X : Type 0} (p : X → Bool) (Q : X → Type 0) (xs : List X) (x : X) → AllByRecursion Q xs → find p xs ≡ Some x → Q x × (p x ≡ true)
find_holds p Q [] x all e = absurd (cc e)
find_holds {X = X} p Q (y ∷ ys) x all e = go (λ e. find_holds p Q ys x all.1 e) (p y) refl e
  where
    go : (find p ys ≡ Some x → Q x × (p x ≡ true)) → (b : Bool) → p y ≡ b → cond b (Some y) (find p ys) ≡ Some x → Q x × (p x ≡ true)
    go more true is e = let same : y ≡ x = cc e in subst (λ w. Q w × (p w ≡ true)) same (all.0, is)
    go more false is e = more e

-- each element of a list is in it
pub all_has : (xs : List ℕ) → AllByRecursion (λ r. has xs r ≡ true) xs
all_has [] = tt
all_has (x ∷ xs) = (or_left (x == x) (has xs x) (eq-eqb x x refl), each_from (λ r. has xs r ≡ true) (λ r. has (x ∷ xs) r ≡ true) (λ r in_it. or_right (x == r) (has xs r) in_it) xs (all_has xs))

-- a rank at an index of a list is in the list
pub has_at : (xs : List ℕ) (n r : ℕ) → slice_get xs n ≡ Some r → has xs r ≡ true
has_at [] n r e = absurd (cc e)
has_at (x ∷ xs) zero r e = let same : x ≡ r = cc e in or_left (x == r) (has xs r) (eq-eqb x r same)
has_at (x ∷ xs) (suc n) r e = or_right (x == r) (has xs r) (has_at xs n r e)

-- a filter adds nobody
pub has_filter : (p : ℕ → Bool) (xs : List ℕ) (r : ℕ) → has (filter p xs) r ≡ true → has xs r ≡ true
has_filter p [] r e = e
has_filter p (x ∷ xs) r e =
    elim (p x) as (λ b. has (cond b (x ∷ filter p xs) (filter p xs)) r ≡ true → has (x ∷ xs) r ≡ true) [
      | true ↦ λ e. first_or (x == r) (has (filter p xs) r) (has xs r) (has_filter p xs r) e
      | false ↦ λ e. or_right (x == r) (has xs r) (has_filter p xs r e)
    ] e
  where
    first_or : (a b c : Bool) → (b ≡ true → c ≡ true) → (a || b) ≡ true → (a || c) ≡ true
    first_or true b c imp e = refl
    first_or false b c imp e = imp e

-- a filter makes a list no longer
pub length-filter-le : (p : ℕ → Bool) (xs : List ℕ) → length (filter p xs) ≤ length xs
length-filter-le p [] = omega arith
length-filter-le p (x ∷ xs) =
    let rest = length-filter-le p xs in
    elim (p x) as (λ b. length (cond b (x ∷ filter p xs) (filter p xs)) ≤ length (x ∷ xs)) [ true ↦ omega (arith, rest) | false ↦ omega (arith, rest) ]

pub none_distinct : {X : Type 0} (same : X → X → Bool) → IsDistinct same []
unfolding IsDistinct
none_distinct same = tt

-- a list without repeats, and one more that is none of its elements
pub distinct_push : {X : Type 0} (same : X → X → Bool) (xs : List X) (x : X) → IsDistinct same xs → list_any (λ y. same y x) xs ≡ false → IsDistinct same (xs ++ x ∷ [])
distinct_push same [] x distinct out = IsDistinct-cons same x [] tt distinct
distinct_push same (y ∷ xs) x distinct out =
    let parts = or_parts (same y x) (list_any (λ y. same y x) xs) out in
    IsDistinct-cons same y (xs ++ x ∷ []) (each_push (λ z. same y z ≡ false) xs x (IsDistinct-head same y xs distinct) parts.0) (distinct_push same xs x (IsDistinct-tail same y xs distinct) parts.1)
