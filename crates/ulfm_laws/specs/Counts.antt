-- Beginnings of the failed group, as their lengths. Known ones are combined by the greatest, acknowledged ones by the least.
use Rattle.std.specs.Prelude.{◌≡◌, ℕ, ◌≤◌, min, max, IsTrue, ◌==◌, nat_le, refl}
use Rattle.std.specs.Coded.{le_prop}
use mathlib.Core.Bool.{Bool-set}
use Rattle.std.proofs.Common.{sym, subst, inl, inr, lit≤, zero-le, le_refl, le_trans, le_of_lt, le_of_eq, le_antisymm, leb-true, eqb-true}
use Rattle.std.proofs.Math.Nat.{max-le, le-max_left, le-max_right, max_comm, max-eq_left, max-eq_right}
use Rattle.std.proofs.Math.Nat.{le-min, min-le_left, min-le_right, min_comm, min-eq_left, min-eq_right}
use Rattle.std.proofs.lemmas.Bool.{cases_lt, or_cases}
use Rattle.ulfm_laws.specs.Lawful.{IsLawful, lawful_by_number}
use Rattle.ulfm_laws.specs.Ranges.{is_acked_count, same_by_number}
use Rattle.ulfm_laws.specs.declared.summary.Acked.{Acked}
use Rattle.ulfm_laws.specs.declared.summary.Known.{Known}

-- ---- known failures

-- nobody
abbrev pub known_unit : Known
known_unit = record { count = 0; in_range = zero-le }

-- the longer beginning
abbrev pub known_meld : Known → Known → Known
known_meld x y = record { count = max x.count y.count; in_range = max-le x.in_range y.in_range }

-- equal counts of known failures are the same
pub same_known : (x y : Known) → x.count ≡ y.count → x ≡ y
same_known x y =
    same_by_number (record { Fits = λ n. n ≤ 1024; one_way = λ n. le_prop; value = λ n in_range. record { count = n; in_range = in_range } })
    x.in_range y.in_range

-- the greatest of three, in either grouping
pub max_assoc : (a b c : ℕ) → max (max a b) c ≡ max a (max b c)
max_assoc a b c =
    let to_b : max a b ≤ max a (max b c) = max-le (le-max_left a (max b c)) (le_trans (le-max_left b c) (le-max_right a (max b c))) in
    let from_b : max b c ≤ max (max a b) c = max-le (le_trans (le-max_right a b) (le-max_left (max a b) c)) (le-max_right (max a b) c) in
    le_antisymm
    (max-le to_b (le_trans (le-max_right b c) (le-max_right a (max b c))))
    (max-le (le_trans (le-max_left a b) (le-max_left (max a b) c)) from_b)

pub known_lawful : IsLawful known_unit known_meld
known_lawful =
    lawful_by_number (λ x. x.count) same_known
    (λ x y z. max_assoc x.count y.count z.count) (λ x y. max_comm x.count y.count) (λ x. max-eq_left (le_refl x.count)) (λ x. max-eq_right zero-le)

-- ---- acknowledged failures

-- what holds of two numbers holds of the greater
pub max_keeps : (Holds : ℕ → Type 0) (m n : ℕ) → Holds m → Holds n → Holds (max m n)
max_keeps Holds m n here there =
    elim (cases_lt m n) [
      | inl less ↦ subst Holds (sym (max-eq_right (le_of_lt less))) there
      | inr more ↦ subst Holds (sym (max-eq_left more)) here
    ]

-- what holds of two numbers holds of the lesser
pub min_keeps : (Holds : ℕ → Type 0) (m n : ℕ) → Holds m → Holds n → Holds (min m n)
min_keeps Holds m n here there =
    elim (cases_lt m n) [
      | inl less ↦ subst Holds (sym (min-eq_left (le_of_lt less))) here
      | inr more ↦ subst Holds (sym (min-eq_right more)) there
    ]

-- everyone
abbrev pub acked_unit : Acked
acked_unit = record { count = 2047; in_range = refl }

-- the shorter beginning
abbrev pub acked_meld : Acked → Acked → Acked
acked_meld x y = record {
  count = min x.count y.count;
  in_range = min_keeps (λ n. IsTrue (is_acked_count n)) x.count y.count x.in_range y.in_range;
}

-- equal counts of acknowledged failures are the same
pub same_acked : (x y : Acked) → x.count ≡ y.count → x ≡ y
same_acked x y =
    same_by_number (record {
      Fits = λ n. IsTrue (is_acked_count n);
      one_way = λ n. Bool-set _ _;
      value = λ n in_range. record { count = n; in_range = in_range };
    }) x.in_range y.in_range

-- everyone is the most that can be acknowledged
pub acked_le : (n : ℕ) → IsTrue (is_acked_count n) → n ≤ 2047
acked_le n in_range =
    elim (or_cases (nat_le n 1024) (n == 2047) in_range) [
      | inl few ↦ le_trans (leb-true n 1024 few) (lit≤ tt)
      | inr all ↦ le_of_eq (eqb-true n 2047 all)
    ]

-- the least of three, in either grouping
pub min_assoc : (a b c : ℕ) → min (min a b) c ≡ min a (min b c)
min_assoc a b c =
    let from_b : min (min a b) c ≤ min b c = le-min (le_trans (min-le_left (min a b) c) (min-le_right a b)) (min-le_right (min a b) c) in
    let to_b : min a (min b c) ≤ min a b = le-min (min-le_left a (min b c)) (le_trans (min-le_right a (min b c)) (min-le_left b c)) in
    le_antisymm
    (le-min (le_trans (min-le_left (min a b) c) (min-le_left a b)) from_b)
    (le-min to_b (le_trans (min-le_right a (min b c)) (min-le_right b c)))

pub acked_lawful : IsLawful acked_unit acked_meld
acked_lawful =
    lawful_by_number (λ x. x.count) same_acked
    (λ x y z. min_assoc x.count y.count z.count) (λ x y. min_comm x.count y.count) (λ x. min-eq_left (le_refl x.count))
    (λ x. min-eq_right (acked_le x.count x.in_range))
