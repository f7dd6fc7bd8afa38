-- The failed groups of communicators, as a rank is declared.
use Rattle.std.proofs.Common.{◌≡◌, ◌<◌, ◌≤◌, ◌+◌, ℕ, zero, suc, Bool, true, false, List, [], ◌∷◌, ◌++◌, length, filter, append-nil, Some, None, get_or, set, if◌then◌else◌, refl, sym, ap, ap₂, ◌∙◌, subst, arith}
use Rattle.std.specs.Prelude.{⊤}
use Rattle.std.specs.Option.{option_map}
use Rattle.std.specs.List.{cons_option}
use Rattle.std.proofs.lemmas.List.Elements.{filter-append}
use Rattle.ulfm_model.specs.History.{has}
use Rattle.ulfm_numbers.specs.declared.groups.Group.{Group}
use Rattle.ulfm_numbers.specs.{Failed.{AreFailed, IsFailed, in_group}, Numbers.{numbers_from}}
use Rattle.ulfm_numbers.proofs.Tabling.{numbers_more}

-- the failures of some members, and where they stand among all
abbrev pub failures_of : List ℕ → List ℕ → List ℕ × List ℕ
failures_of members failures = (filter (has members) failures, numbers_from (in_group members) 0 failures)

abbrev pair : List ℕ → List ℕ → List ℕ × List ℕ
pair xs ys = (xs, ys)

module _ (members failures : List ℕ) (r : ℕ) where
  -- a failure of a member
  pub member_failed : (failed places : List ℕ) (n : ℕ) → has members r ≡ true → n ≡ length failures
      → pair failed places ≡ failures_of members failures → pair (failed ++ r ∷ []) (places ++ n ∷ []) ≡ failures_of members (failures ++ r ∷ [])
  member_failed failed places n is count told =
      let same : n ≡ 0 + length failures = omega (arith, count) in
      let ranks : failed ++ r ∷ [] ≡ filter (has members) (failures ++ r ∷ []) =
      ap (λ (xs : List ℕ × List ℕ). xs.0 ++ r ∷ []) told ∙ sym (filter-append (has members) failures (r ∷ []) ∙ ap (λ (b : Bool). filter (has members) failures ++ (if b then r ∷ [] else [])) is) in
      let numbers : places ++ n ∷ [] ≡ numbers_from (in_group members) 0 (failures ++ r ∷ []) =
      ap₂ (λ (xs : List ℕ × List ℕ) (m : ℕ). xs.1 ++ m ∷ []) told same
      ∙ sym (numbers_more (in_group members) 0 failures r ∙ ap (λ (b : Bool). numbers_from (in_group members) 0 failures ++ cons_option (option_map (λ y. 0 + length failures) (if b then Some r else None)) []) is) in
      ap₂ pair ranks numbers

  -- one of somebody else
  pub other_failed : (failed places : List ℕ) → has members r ≡ false
      → pair failed places ≡ failures_of members failures → pair failed places ≡ failures_of members (failures ++ r ∷ [])
  other_failed failed places isnt told =
      let ranks : failed ≡ filter (has members) (failures ++ r ∷ []) =
      ap (λ (xs : List ℕ × List ℕ). xs.0) told ∙ sym (filter-append (has members) failures (r ∷ []) ∙ (ap (λ (b : Bool). filter (has members) failures ++ (if b then r ∷ [] else [])) isnt ∙ append-nil (filter (has members) failures))) in
      let numbers : places ≡ numbers_from (in_group members) 0 (failures ++ r ∷ []) =
      ap (λ (xs : List ℕ × List ℕ). xs.1) told
      ∙ sym (numbers_more (in_group members) 0 failures r ∙ (ap (λ (b : Bool). numbers_from (in_group members) 0 failures ++ cons_option (option_map (λ y. 0 + length failures) (if b then Some r else None)) []) isnt ∙ append-nil (numbers_from (in_group members) 0 failures))) in
      ap₂ pair ranks numbers

module _ {A : Type 0} (before more : List ℕ) where
  -- the first so many groups are as they are after a declaration, the others as before
  abbrev pub AreDeclared : ℕ → List (Group A) → Type 0
  AreDeclared i [] = ⊤
  AreDeclared zero (g ∷ groups) = IsFailed before g × AreDeclared zero groups
  AreDeclared (suc i) (g ∷ groups) = IsFailed more g × AreDeclared i groups

  pub none_declared : (groups : List (Group A)) → AreFailed before groups → AreDeclared 0 groups
  none_declared [] are = tt
  none_declared (g ∷ groups) are = (cc are, none_declared groups (cc are))

  pub all_declared : (i : ℕ) (groups : List (Group A)) → length groups ≤ i → AreDeclared i groups → AreFailed more groups
  all_declared i [] le are = refl
  all_declared zero (g ∷ groups) le are = absurd (omega (arith, le))
  all_declared (suc i) (g ∷ groups) le are = ap₂ (λ x xs. x ∷ xs) are.0 (all_declared i groups (omega (arith, le)) are.1)

  pub next_declared : (i : ℕ) (groups : List (Group A)) (d : Group A) → i < length groups → AreDeclared i groups → IsFailed before (get_or groups i d)
  next_declared i [] d lt are = absurd (omega (arith, lt))
  next_declared zero (g ∷ groups) d lt are = are.0
  next_declared (suc i) (g ∷ groups) d lt are = next_declared i groups d (omega (arith, lt)) are.1

  pub one_declared : (i : ℕ) (groups : List (Group A)) (g : Group A) → i < length groups → AreDeclared i groups → IsFailed more g → AreDeclared (i + 1) (set groups i g)
  one_declared i [] g lt are is = absurd (omega (arith, lt))
  one_declared zero (h ∷ groups) g lt are is = (is, are.1)
  one_declared (suc i) (h ∷ groups) g lt are is =
      let rest : AreDeclared (i + 1) (set groups i g) = one_declared i groups g (omega (arith, lt)) are.1 is in
      let same : suc (i + 1) ≡ suc i + 1 = omega arith in
      subst (λ n. AreDeclared n (h ∷ set groups i g)) same (are.0, rest)
