-- The greatest and the least of two counts, where a greater count stands for more.
use Rattle.std.proofs.Common.{◌≡◌, ◌↔◌, ◌⊎◌, ◌≤◌, ◌==◌, ℕ, Bool, true, false, cond, List, Contains, IsTrue, min, max, take, refl, inl, inr, ⊎_elim, arith}
use Rattle.std.proofs.lemmas.Bool.{cases_lt}
use Rattle.std.proofs.lemmas.Bool.Decides.{nat_tests}
use Rattle.ulfm_laws.specs.Counts.{known_unit, known_meld, acked_unit, acked_meld}
use Rattle.ulfm_laws.specs.Ranges.{is_acked_count}
use Rattle.ulfm_laws.specs.StandsFor.{known_stands_for, acked_stands_for, MeldsToUnion, MeldsToIntersection}
use Rattle.ulfm_laws.specs.declared.summary.Acked.{Acked}
use Rattle.ulfm_laws.specs.declared.summary.Known.{Known}
use Rattle.ulfm_laws.proofs.Members.{Contains-from_take, Contains-take}
use Rattle.ulfm_laws.proofs.Several.{to_union, to_intersection}

module _ {P : Type 0} (count : P → ℕ) (stands_for : P → List ℕ) (grows : (x y : P) (n : ℕ) → count x ≤ count y → Contains (stands_for x) n → Contains (stands_for y) n) where
  greatest_has_either : (x y z : P) → count z ≡ max (count x) (count y) → (n : ℕ) → Contains (stands_for z) n ↔ (Contains (stands_for x) n ⊎ Contains (stands_for y) n)
  greatest_has_either x y z e n =
      (λ member. elim (cases_lt (count y) (count x)) [ inl less ↦ inl (grows z x n (omega arith) member) | inr more ↦ inr (grows z y n (omega arith) member) ], ⊎_elim (grows x z n (omega arith)) (grows y z n (omega arith)))

  least_has_both : (x y z : P) → count z ≡ min (count x) (count y) → (n : ℕ) → Contains (stands_for z) n ↔ (Contains (stands_for x) n × Contains (stands_for y) n)
  least_has_both x y z e n =
      (λ member. (grows z x n (omega arith) member, grows z y n (omega arith) member), λ both. elim (cases_lt (count x) (count y)) [ inl less ↦ grows x z n (omega arith) both.0 | inr more ↦ grows y z n (omega arith) both.1 ])

-- of two beginnings of one group, the longer is the union
pub known_union : (failed : List ℕ) → MeldsToUnion known_unit known_meld (known_stands_for failed)
known_union failed =
    let grows : (x y : Known) (n : ℕ) → x.count ≤ y.count → Contains (known_stands_for failed x) n → Contains (known_stands_for failed y) n = λ x y n. Contains-take x.count y.count failed n in
    to_union known_unit known_meld (known_stands_for failed) refl (λ x y. greatest_has_either (λ z. z.count) (known_stands_for failed) grows x y (known_meld x y) refl)

-- a longer beginning has more, also where 2047 is read as everyone
acked_grows : (failed : List ℕ) (a b n : ℕ) (all more : Bool) → (a == 2047) ≡ all → (b == 2047) ≡ more → IsTrue (is_acked_count b) → a ≤ b → Contains (cond all failed (take a failed)) n → Contains (cond more failed (take b failed)) n
acked_grows failed a b n true true d e in_range le member = member
acked_grows failed a b n true false d e in_range le member = absurd (grind (arith, nat_tests))
acked_grows failed a b n false true d e in_range le member = Contains-from_take a failed n member
acked_grows failed a b n false false d e in_range le member = Contains-take a b failed n le member

-- of two beginnings of one group, the shorter is the intersection
pub acked_intersection : (failed : List ℕ) → MeldsToIntersection failed acked_unit acked_meld (acked_stands_for failed)
acked_intersection failed =
    let grows : (x y : Acked) (n : ℕ) → x.count ≤ y.count → Contains (acked_stands_for failed x) n → Contains (acked_stands_for failed y) n = λ x y n. acked_grows failed x.count y.count n (x.count == 2047) (y.count == 2047) refl refl y.in_range in
    to_intersection failed acked_unit acked_meld (acked_stands_for failed) refl (λ x y. least_has_both (λ z. z.count) (acked_stands_for failed) grows x y (acked_meld x y) refl)
