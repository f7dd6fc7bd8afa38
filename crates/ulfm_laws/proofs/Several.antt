-- From two values to a list of them.
use Rattle.std.proofs.Common.{◌≡◌, ◌↔◌, ◌⊎◌, ℕ, List, [], ◌∷◌, All, Any, Contains, sym, ap, ◌∙◌, subst, inl, inr, not-suc-le-zero}
use Rattle.std.proofs.lemmas.List.Elements.{All-nil, All-cons, All-head, All-tail}
use Rattle.ulfm_laws.specs.Combined.{combined}
use Rattle.ulfm_laws.specs.Lawful.{IsLawful}
use Rattle.ulfm_laws.specs.StandsFor.{MeldsToUnion, MeldsToIntersection}
use Rattle.ulfm_laws.proofs.Members.{Any-here, Any-there, Any-cases, Contains-here, Contains-there, Contains-cases}

module _ {P : Type 0} (unit : P) (meld : P → P → P) (stands_for : P → List ℕ)
    (nothing : stands_for unit ≡ [])
    (either : (x y : P) (n : ℕ) → Contains (stands_for (meld x y)) n ↔ (Contains (stands_for x) n ⊎ Contains (stands_for y) n)) where
  some_of : (xs : List P) (n : ℕ) → Contains (stands_for (combined unit meld xs)) n ↔ Any (λ x. Contains (stands_for x) n) xs
  some_of [] n =
      let empty : Contains (stands_for unit) n → Contains [] n = subst (λ (set : List ℕ). Contains set n) nothing in
      (λ member. absurd (not-suc-le-zero (empty member).1), λ any. absurd (not-suc-le-zero any.2))
  some_of (x ∷ xs) n =
      let Has : P → Type 0 = λ y. Contains (stands_for y) n in
      let rest = some_of xs n in
      let two = either x (combined unit meld xs) n in
      (λ member. elim (two.0 member) [ inl here ↦ Any-here Has x xs here | inr later ↦ Any-there Has x xs (rest.0 later) ], λ any. two.1 (elim (Any-cases Has x xs any) [ inl here ↦ inl here | inr later ↦ inr (rest.1 later) ]))

  -- where two meld to their union, so does a list
  pub to_union : MeldsToUnion unit meld stands_for
  to_union = record { nothing = nothing; either = either; some = some_of }

module _ {P : Type 0} (whole : List ℕ) (unit : P) (meld : P → P → P) (stands_for : P → List ℕ)
    (everything : stands_for unit ≡ whole)
    (both : (x y : P) (n : ℕ) → Contains (stands_for (meld x y)) n ↔ (Contains (stands_for x) n × Contains (stands_for y) n)) where
  each_of : (xs : List P) (n : ℕ) → Contains whole n → (Contains (stands_for (combined unit meld xs)) n ↔ All (λ x. Contains (stands_for x) n) xs)
  each_of [] n within = (λ member. All-nil (λ x. Contains (stands_for x) n), λ all. subst (λ (set : List ℕ). Contains set n) (sym everything) within)
  each_of (x ∷ xs) n within =
      let Has : P → Type 0 = λ y. Contains (stands_for y) n in
      let rest = each_of xs n within in
      let two = both x (combined unit meld xs) n in
      (λ member. let parts = two.0 member in All-cons Has x xs parts.0 (rest.0 parts.1), λ all. two.1 (All-head Has x xs all, rest.1 (All-tail Has x xs all)))

  -- where two meld to their intersection, so does a list
  pub to_intersection : MeldsToIntersection whole unit meld stands_for
  to_intersection = record { everything = everything; both = both; each = each_of }

module _ {P : Type 0} {unit : P} {meld : P → P → P} (laws : IsLawful unit meld) where
  -- a value that is there already adds nothing
  meld-combined : (x : P) (xs : List P) → Contains xs x → meld x (combined unit meld xs) ≡ combined unit meld xs
  meld-combined x [] member = absurd (not-suc-le-zero member.1)
  meld-combined x (y ∷ ys) member =
      let rest = combined unit meld ys in
      elim (Contains-cases y x ys member) [
        | inl same ↦ ap (λ z. meld z (meld y rest)) (sym same) ∙ (sym (laws.associative y y rest) ∙ ap (λ z. meld z rest) (laws.idempotent y))
        | inr later ↦ sym (laws.associative x y rest) ∙ (ap (λ z. meld z rest) (laws.commutative x y) ∙ (laws.associative y x rest ∙ ap (meld y) (meld-combined x ys later)))
      ]

  -- nor does a list of such values
  combined-meld : (xs ys : List P) → ((x : P) → Contains xs x → Contains ys x) → meld (combined unit meld xs) (combined unit meld ys) ≡ combined unit meld ys
  combined-meld [] ys among = laws.unit_left (combined unit meld ys)
  combined-meld (x ∷ xs) ys among =
      let rest = combined-meld xs ys (λ y member. among y (Contains-there x y xs member)) in
      laws.associative x (combined unit meld xs) (combined unit meld ys) ∙ (ap (meld x) rest ∙ meld-combined x ys (among x (Contains-here x xs)))

  -- lists with the same members are combined alike
  pub same_members : (xs ys : List P) → ((x : P) → Contains xs x ↔ Contains ys x) → combined unit meld xs ≡ combined unit meld ys
  same_members xs ys alike =
      sym (combined-meld ys xs (λ x. (alike x).1))
      ∙ (laws.commutative (combined unit meld ys) (combined unit meld xs) ∙ combined-meld xs ys (λ x. (alike x).0))
