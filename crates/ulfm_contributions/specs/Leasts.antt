-- Numbers, of which the least is agreed on.
use Rattle.std.specs.Prelude.{◌≡◌, ℕ, ◌^◌, ◌%◌, min, Option, Some}
use Rattle.std.proofs.Common.{ap, le_refl, lit<, lt_of_le_of_lt, mod-eq_of_lt, mod-lt}
use Rattle.std.proofs.Math.Nat.{le-pred_of_lt, min-le_left, min_comm, min-eq_left, min-eq_right}
use Rattle.ulfm_laws.specs.Lawful.{IsLawful, lawful_by_number}
use Rattle.ulfm_laws.specs.Ranges.{all_ones, payload_bits, same_word}
use Rattle.ulfm_laws.specs.Counts.{min_assoc}
use Rattle.ulfm_contributions.specs.declared.least.Least.{Least}

-- the greatest number
abbrev pub least_unit : Least
least_unit = record { value = all_ones; fits = lit< tt }

-- the lesser of both
abbrev pub least_meld : Least → Least → Least
least_meld x y = record { value = min x.value y.value; fits = lt_of_le_of_lt (min-le_left x.value y.value) x.fits }

-- values with the same value are the same
pub same_least : (x y : Least) → x.value ≡ y.value → x ≡ y
same_least x y = same_word (λ n fits. record { value = n; fits = fits }) x.fits y.fits

pub least_lawful : IsLawful least_unit least_meld
least_lawful =
    lawful_by_number (λ x. x.value) same_least
    (λ x y z. min_assoc x.value y.value z.value) (λ x y. min_comm x.value y.value) (λ x. min-eq_left (le_refl x.value))
    (λ x. min-eq_right (le-pred_of_lt x.fits))

-- The value of a word. A word is below 2 ^ payload_bits, so the remainder is the word itself.
abbrev pub least_unpack : ℕ → Option Least
least_unpack word = Some (record { value = word % 2 ^ payload_bits; fits = mod-lt word (lit< tt) })

pub least_unpack_pack : (x : Least) → least_unpack x.value ≡ Some x
least_unpack_pack x =
    ap Some (same_least (record { value = x.value % 2 ^ payload_bits; fits = mod-lt x.value (lit< tt) }) x (mod-eq_of_lt x.fits))
