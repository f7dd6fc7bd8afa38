-- Flags, combined by AND.
use Rattle.std.specs.Prelude.{◌≡◌, ℕ, ◌^◌, ◌%◌, bit_and, Option, Some}
use Rattle.std.specs.Int.Bits.{and_self}
use Rattle.std.proofs.Common.{ap, lit<, lt_of_le_of_lt, mod-eq_of_lt, mod-lt}
use Rattle.std.proofs.lemmas.Nat.{and_le_l, and_comm, and_assoc}
use Rattle.ulfm_laws.specs.Lawful.{IsLawful, lawful_by_number}
use Rattle.ulfm_laws.specs.Ranges.{all_ones, ones-and, payload_bits, same_word}
use Rattle.ulfm_laws.specs.declared.flag_and.FlagAnd.{FlagAnd}

-- every bit
abbrev pub flag_unit : FlagAnd
flag_unit = record { bits = all_ones; fits = lit< tt }

-- the bits that both have
abbrev pub flag_meld : FlagAnd → FlagAnd → FlagAnd
flag_meld x y = record { bits = bit_and x.bits y.bits; fits = lt_of_le_of_lt (and_le_l x.bits y.bits) x.fits }

-- flags with the same bits are the same
pub same_flag : (x y : FlagAnd) → x.bits ≡ y.bits → x ≡ y
same_flag x y = same_word (λ n fits. record { bits = n; fits = fits }) x.fits y.fits

pub flag_lawful : IsLawful flag_unit flag_meld
flag_lawful =
    lawful_by_number (λ x. x.bits) same_flag
    (λ x y z. and_assoc z.bits x.bits y.bits) (λ x y. and_comm x.bits y.bits) (λ x. and_self x.bits) (λ x. ones-and x.bits x.fits)

-- The flag of a word. A word is below 2 ^ payload_bits, so the remainder is the word itself.
abbrev pub flag_unpack : ℕ → Option FlagAnd
flag_unpack word = Some (record { bits = word % 2 ^ payload_bits; fits = mod-lt word (lit< tt) })

pub flag_unpack_pack : (x : FlagAnd) → flag_unpack x.bits ≡ Some x
flag_unpack_pack x = ap Some (same_flag (record { bits = x.bits % 2 ^ payload_bits; fits = mod-lt x.bits (lit< tt) }) x (mod-eq_of_lt x.fits))
