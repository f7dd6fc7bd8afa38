-- Numbers, of which the greatest is agreed on.
use Rattle.std.specs.Prelude.{◌≡◌, ℕ, ◌<◌, ◌^◌, ◌%◌, max, Option, Some}
use Rattle.std.proofs.Common.{ap, le_refl, lit<, mod-eq_of_lt, mod-lt, zero-le}
use Rattle.std.proofs.Math.Nat.{max_comm, max-eq_left, max-eq_right}
use Rattle.ulfm_laws.specs.Lawful.{IsLawful, lawful_by_number}
use Rattle.ulfm_laws.specs.Ranges.{payload_bits, same_word}
use Rattle.ulfm_laws.specs.Counts.{max_assoc, max_keeps}
use Rattle.ulfm_contributions.specs.declared.greatest.Greatest.{Greatest}

-- the least number
abbrev pub greatest_unit : Greatest
greatest_unit = record { value = 0; fits = lit< tt }

-- the greater of both
abbrev pub greatest_meld : Greatest → Greatest → Greatest
greatest_meld x y = record { value = max x.value y.value; fits = max_keeps (λ n. n < 2 ^ payload_bits) x.value y.value x.fits y.fits }

-- values with the same value are the same
pub same_greatest : (x y : Greatest) → x.value ≡ y.value → x ≡ y
same_greatest x y = same_word (λ n fits. record { value = n; fits = fits }) x.fits y.fits

pub greatest_lawful : IsLawful greatest_unit greatest_meld
greatest_lawful =
    lawful_by_number (λ x. x.value) same_greatest
    (λ x y z. max_assoc x.value y.value z.value) (λ x y. max_comm x.value y.value) (λ x. max-eq_left (le_refl x.value)) (λ x. max-eq_right zero-le)

-- The value of a word. A word is below 2 ^ payload_bits, so the remainder is the word itself.
abbrev pub greatest_unpack : ℕ → Option Greatest
greatest_unpack word = Some (record { value = word % 2 ^ payload_bits; fits = mod-lt word (lit< tt) })

pub greatest_unpack_pack : (x : Greatest) → greatest_unpack x.value ≡ Some x
greatest_unpack_pack x =
    ap Some (same_greatest (record { value = x.value % 2 ^ payload_bits; fits = mod-lt x.value (lit< tt) }) x (mod-eq_of_lt x.fits))
