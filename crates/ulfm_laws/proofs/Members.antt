-- Members of a list, by its first element and the rest.
use Rattle.std.proofs.Common.{◌≡◌, ◌⊎◌, ◌≤◌, ℕ, zero, suc, List, [], ◌∷◌, Bool, true, false, cond, Any, Contains, filter, take, drop, refl, sym, ap, ◌∙◌, subst, inl, inr, zero-lt-suc, suc-le-suc, le_of_suc-le-suc, take-append-drop, take-take}
use Rattle.std.proofs.lemmas.List.Elements.{All-contains, All-contains_itself, All-filter, filter_passes, Contains-append_left}

module _ {X : Type 0} where
  -- the first element has it
  pub Any-here : (P : X → Type 0) (x : X) (xs : List X) → P x → Any P (x ∷ xs)
  Any-here P x xs holds = (zero, x, zero-lt-suc _, refl, holds)

  -- a later element has it
  pub Any-there : (P : X → Type 0) (x : X) (xs : List X) → Any P xs → Any P (x ∷ xs)
  Any-there P x xs (k, y, within, e, holds) = (suc k, y, suc-le-suc within, e, holds)

  -- one or the other
  pub Any-cases : (P : X → Type 0) (x : X) (xs : List X) → Any P (x ∷ xs) → P x ⊎ Any P xs
  Any-cases P x xs (zero, y, within, e, holds) = inl (subst P (sym e) holds)
  Any-cases P x xs (suc k, y, within, e, holds) = inr (k, y, le_of_suc-le-suc within, e, holds)

  -- the first element is a member
  pub Contains-here : (x : X) (xs : List X) → Contains (x ∷ xs) x
  Contains-here x xs = (zero, zero-lt-suc _, refl)

  -- so is a later one
  pub Contains-there : (x y : X) (xs : List X) → Contains xs y → Contains (x ∷ xs) y
  Contains-there x y xs (k, within, e) = (suc k, suc-le-suc within, e)

  -- a member is one or the other
  pub Contains-cases : (x y : X) (xs : List X) → Contains (x ∷ xs) y → (x ≡ y) ⊎ Contains xs y
  Contains-cases x y xs (zero, within, e) = inl e
  Contains-cases x y xs (suc k, within, e) = inr (k, le_of_suc-le-suc within, e)

  kept_here : (b : Bool) (x y : X) (xs : List X) → b ≡ true → x ≡ y → Contains (cond b (x ∷ xs) xs) y
  kept_here true x y xs passes same = (zero, zero-lt-suc _, same)
  kept_here false x y xs passes same = absurd (cc passes)

  kept_there : (b : Bool) (x y : X) (xs : List X) → Contains xs y → Contains (cond b (x ∷ xs) xs) y
  kept_there true x y xs member = Contains-there x y xs member
  kept_there false x y xs member = member

  -- a filter keeps the members that pass its test
  pub Contains-filter : (p : X → Bool) (xs : List X) (y : X) → Contains xs y → p y ≡ true → Contains (filter p xs) y
  Contains-filter p [] y member passes = member
  Contains-filter p (x ∷ xs) y member passes =
      elim (Contains-cases x y xs member) [
        | inl same ↦ kept_here (p x) x y (filter p xs) (ap p same ∙ passes) same
        | inr later ↦ kept_there (p x) x y (filter p xs) (Contains-filter p xs y later passes)
      ]

  -- and no others
  pub Contains-from_filter : (p : X → Bool) (xs : List X) (y : X) → Contains (filter p xs) y → Contains xs y × (p y ≡ true)
  Contains-from_filter p xs y member =
      let old = All-filter p (Contains xs) xs (All-contains_itself xs) in
      let passes = filter_passes p xs in
      (All-contains (Contains xs) (filter p xs) y old member, All-contains (λ x. p x ≡ true) (filter p xs) y passes member)

  -- the first ones are among all
  pub Contains-from_take : (n : ℕ) (xs : List X) (y : X) → Contains (take n xs) y → Contains xs y
  Contains-from_take n xs y member =
      subst (λ (all : List X). Contains all y) (take-append-drop n xs) (Contains-append_left (take n xs) (drop n xs) y member)

  -- and among more of the first ones
  pub Contains-take : (m n : ℕ) (xs : List X) (y : X) → m ≤ n → Contains (take m xs) y → Contains (take n xs) y
  Contains-take m n xs y fewer member =
      Contains-from_take m (take n xs) y (subst (λ (all : List X). Contains all y) (sym (take-take m n xs fewer)) member)
