-- The first element that passes a test, found by its place in a vector, and what is changed there.
use Rattle.std.proofs.Common.{◌≡◌, ℕ, zero, suc, ◌<◌, ◌≤◌, ◌==◌, Bool, true, false, cond, List, [], ◌∷◌, ◌++◌, map, filter, length, remove, Some, None, slice_get, slice_index_or, slice_set, not, refl, ap, sym, ◌∙◌, arith}
use Rattle.std.specs.List.{find, position, position_or_len}
use Rattle.std.specs.Option.{option_map}
use Rattle.std.proofs.lemmas.List.{get_or_append_left, set-append_left}
use Rattle.std.proofs.lemmas.List.Quantifiers.{position-Some}
use Rattle.std.proofs.lemmas.List.Folds.{find_at}
use Rattle.std.proofs.lemmas.Grind.{common_steps}
use Rattle.ulfm_model.specs.Records.{Held, change_at}

-- the place of what is found is within the list
pub position_below : {X : Type 0} (p : X → Bool) (xs : List X) (i : ℕ) → position p xs ≡ Some i → i < length xs
position_below p [] i is = absurd (cc is)
position_below p (x ∷ xs) i is = (position-Some p (x ∷ xs) i x is).0

past : {X : Type 0} (xs : List X) (n : ℕ) → length xs ≤ n → slice_get xs n ≡ None
past [] n le = refl
past (x ∷ xs) zero le = absurd (omega arith)
past (x ∷ xs) (suc n) le = past xs n (omega arith)

module _ {X : Type 0} (p : X → Bool) where
  -- the first that passes is found
  pub found_at : (xs : List X) (i : ℕ) (d : X) → i < length xs → p (slice_index_or xs i d) ≡ true → ((k : ℕ) → k < i → p (slice_index_or xs k d) ≡ false) → find p xs ≡ Some (slice_index_or xs i d)
  found_at [] i d below is before = absurd (omega arith)
  found_at (x ∷ xs) zero d below is before = ap (λ b. cond b (Some x) (find p xs)) is
  found_at (x ∷ xs) (suc i) d below is before = ap (λ b. cond b (Some x) (find p xs)) (before 0 (omega arith)) ∙ found_at xs i d (omega arith) is (λ k le. before (suc k) (omega arith))

  found_place : (xs : List X) (i : ℕ) (d : X) → position p xs ≡ Some i → find p xs ≡ Some (slice_index_or xs i d)
  found_place xs i d at = let first = position-Some p xs i d at in found_at xs i d first.0 first.1 first.2

  no_place : (xs : List X) → position p xs ≡ None → find p xs ≡ None
  no_place xs e = let far : length xs ≤ position_or_len p xs = grind (arith, common_steps) in find_at p xs ∙ past xs (position_or_len p xs) far

module _ {X Y : Type 0} (v : X → Y) (p : Y → Bool) where
  find_map : (xs : List X) → find p (map v xs) ≡ option_map v (find (λ x. p (v x)) xs)
  find_map [] = refl
  find_map (x ∷ xs) =
      let rest = find_map xs in
      elim (p (v x)) as (λ b. cond b (Some (v x)) (find p (map v xs)) ≡ option_map v (cond b (Some x) (find (λ x. p (v x)) xs))) [ true ↦ refl | false ↦ rest ]

  -- what stands at the first place is what is found, also as a view sees it
  pub find_place : (xs : List X) (i : ℕ) (d : X) → position (λ x. p (v x)) xs ≡ Some i → find p (map v xs) ≡ Some (v (slice_index_or xs i d))
  find_place xs i d at = find_map xs ∙ ap (option_map v) (found_place (λ (x : X). p (v x)) xs i d at)

  -- where there is no such place, none is found
  pub find_no_place : (xs : List X) → position (λ x. p (v x)) xs ≡ None → find p (map v xs) ≡ None
  find_no_place xs e = find_map xs ∙ ap (option_map v) (no_place (λ (x : X). p (v x)) xs e)

-- whether a communicator has this number
abbrev pub is_of : ℕ → Held → Bool
is_of c x = x.comm == c

-- the first of a number is the one that is found
pub find_is : (xs : List Held) (c i : ℕ) (d : Held) → position (is_of c) xs ≡ Some i → find (is_of c) xs ≡ Some (slice_index_or xs i d)
find_is xs c i d at = found_place (is_of c) xs i d at

-- there is none of this number
pub find_missing : (xs : List Held) (c : ℕ) → position (is_of c) xs ≡ None → find (is_of c) xs ≡ None
find_missing xs c e = no_place (is_of c) xs e

changed_at : (xs : List Held) (c i : ℕ) (d y : Held) (f : Held → Held) → i < length xs → is_of c (slice_index_or xs i d) ≡ true → ((k : ℕ) → k < i → is_of c (slice_index_or xs k d) ≡ false) → y ≡ f (slice_index_or xs i d)
    → slice_set xs i y ≡ change_at c f xs
changed_at [] c i d y f below is before same = absurd (omega arith)
changed_at (x ∷ xs) c zero d y f below is before same = ap (λ z. z ∷ xs) same ∙ sym (ap (λ b. cond b (f x ∷ xs) (x ∷ change_at c f xs)) is)
changed_at (x ∷ xs) c (suc i) d y f below is before same =
    ap (λ zs. x ∷ zs) (changed_at xs c i d y f (omega arith) is (λ k le. before (suc k) (omega arith)) same) ∙ sym (ap (λ b. cond b (f x ∷ xs) (x ∷ change_at c f xs)) (before 0 (omega arith)))

-- and it is the one that is changed
pub change_is : (xs : List Held) (c i : ℕ) (d y : Held) (f : Held → Held) → position (is_of c) xs ≡ Some i → y ≡ f (slice_index_or xs i d) → slice_set xs i y ≡ change_at c f xs
change_is xs c i d y f at same = let p = position-Some (is_of c) xs i d at in changed_at xs c i d y f p.0 p.1 p.2 same

unchanged : (xs : List Held) (c : ℕ) (f : Held → Held) → find (is_of c) xs ≡ None → xs ≡ change_at c f xs
unchanged [] c f e = refl
unchanged (x ∷ xs) c f e = go (is_of c x) e (λ less. unchanged xs c f less)
  where
    go : (b : Bool) → cond b (Some x) (find (is_of c) xs) ≡ None → (find (is_of c) xs ≡ None → xs ≡ change_at c f xs) → x ∷ xs ≡ cond b (f x ∷ xs) (x ∷ change_at c f xs)
    go true e rest = absurd (cc e)
    go false e rest = ap (λ zs. x ∷ zs) (rest e)

-- so nothing is changed
pub change_missing : (xs : List Held) (c : ℕ) (f : Held → Held) → position (is_of c) xs ≡ None → xs ≡ change_at c f xs
change_missing xs c f e = unchanged xs c f (find_missing xs c e)

-- one communicator is changed, and one more is held
pub change_pushed : (xs pushed : List Held) (made : Held) (c i : ℕ) (d y : Held) (f : Held → Held) → position (is_of c) xs ≡ Some i → pushed ≡ xs ++ made ∷ [] → y ≡ f (slice_index_or pushed i d) → slice_set pushed i y ≡ change_at c f xs ++ made ∷ []
change_pushed xs pushed made c i d y f at more same =
    let p = position-Some (is_of c) xs i d in
    let here = p at in
    let old : y ≡ f (slice_index_or xs i d) = same ∙ (ap (λ zs. f (slice_index_or zs i d)) more ∙ ap f (get_or_append_left xs (made ∷ []) d i here.0)) in
    ap (λ zs. slice_set zs i y) more ∙ (set-append_left xs (made ∷ []) i y here.0 ∙ ap (λ zs. zs ++ made ∷ []) (change_is xs c i d y f at old))

-- none is changed, and one more is held
pub push_missing : (xs pushed : List Held) (made : Held) (c : ℕ) (f : Held → Held) → position (is_of c) xs ≡ None → pushed ≡ xs ++ made ∷ [] → pushed ≡ change_at c f xs ++ made ∷ []
push_missing xs pushed made c f none more = more ∙ ap (λ zs. zs ++ made ∷ []) (change_missing xs c f none)

removed_at : (c : ℕ) (xs : List Held) (i : ℕ) (d : Held) → i < length xs → is_of c (slice_index_or xs i d) ≡ true → filter (λ x. not (is_of c x)) (remove xs i) ≡ filter (λ x. not (is_of c x)) xs
removed_at c [] i d below is = absurd (omega arith)
removed_at c (x ∷ xs) zero d below is = sym (ap (λ b. cond (not b) (x ∷ filter (λ y. not (is_of c y)) xs) (filter (λ y. not (is_of c y)) xs)) is)
removed_at c (x ∷ xs) (suc i) d below is = ap (λ zs. cond (not (is_of c x)) (x ∷ zs) zs) (removed_at c xs i d (omega arith) is)

-- those of other numbers are kept where one of this number is taken away
pub kept_removed : (c : ℕ) (xs : List Held) (i : ℕ) (d : Held) → position (is_of c) xs ≡ Some i → filter (λ x. not (is_of c x)) (remove xs i) ≡ filter (λ x. not (is_of c x)) xs
kept_removed c xs i d at = let p = position-Some (is_of c) xs i d at in removed_at c xs i d p.0 p.1

all_other : (c : ℕ) (xs : List Held) → find (is_of c) xs ≡ None → filter (λ x. not (is_of c x)) xs ≡ xs
all_other c [] none = refl
all_other c (x ∷ xs) none = go (is_of c x) none (λ more. all_other c xs more)
  where
    go : (b : Bool) → cond b (Some x) (find (is_of c) xs) ≡ None → (find (is_of c) xs ≡ None → filter (λ y. not (is_of c y)) xs ≡ xs) → cond (not b) (x ∷ filter (λ y. not (is_of c y)) xs) (filter (λ y. not (is_of c y)) xs) ≡ x ∷ xs
    go true none rest = absurd (cc none)
    go false none rest = ap (λ zs. x ∷ zs) (rest none)

-- and all are, where there is none of it
pub kept_all : (c : ℕ) (xs : List Held) → position (is_of c) xs ≡ None → filter (λ x. not (is_of c x)) xs ≡ xs
kept_all c xs none = all_other c xs (find_missing xs c none)
