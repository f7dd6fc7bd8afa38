-- What a kind of contribution owes, so that ranks may combine theirs.
use Rattle.std.specs.Prelude.{◌≡◌, ℕ}

-- neither grouping, nor order, nor repetition changes what is combined, and the unit adds nothing to it
pub record IsLawful {P : Type 0} (unit : P) (meld : P → P → P) : Type 0 where
  pub associative : (x y z : P) → meld (meld x y) z ≡ meld x (meld y z)
  pub commutative : (x y : P) → meld x y ≡ meld y x
  pub idempotent : (x : P) → meld x x ≡ x
  pub unit_left : (x : P) → meld unit x ≡ x

-- a kind whose values are told by their numbers is lawful where the numbers of what is combined are alike
pub lawful_by_number :
    {P : Type 0} {unit : P} {meld : P → P → P} (number : P → ℕ) → ((x y : P) → number x ≡ number y → x ≡ y)
    → ((x y z : P) → number (meld (meld x y) z) ≡ number (meld x (meld y z)))
    → ((x y : P) → number (meld x y) ≡ number (meld y x))
    → ((x : P) → number (meld x x) ≡ number x)
    → ((x : P) → number (meld unit x) ≡ number x)
    → IsLawful unit meld
lawful_by_number {unit = unit} {meld = meld} number same associative commutative idempotent unit_left = record {
  associative = λ x y z. same (meld (meld x y) z) (meld x (meld y z)) (associative x y z);
  commutative = λ x y. same (meld x y) (meld y x) (commutative x y);
  idempotent = λ x. same (meld x x) x (idempotent x);
  unit_left = λ x. same (meld unit x) x (unit_left x);
}
