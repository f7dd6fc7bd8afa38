-- Flags, combined by OR.
use Rattle.std.specs.Prelude.{◌≡◌, ℕ, ◌^◌, ◌%◌, bit_or, max, Option, Some}
use Rattle.std.specs.Int.{bit_at}
use Rattle.std.specs.Int.Bits.{or_self}
use Rattle.std.proofs.Common.{◌∙◌, ap, refl, sym, lit<, mod-eq_of_lt, mod-lt}
use Rattle.std.proofs.lemmas.Nat.{or_comm, or_lt}
use Rattle.std.proofs.lemmas.Nat.Bits.{bit_at_or, same_from_bits}
use Rattle.ulfm_laws.specs.Lawful.{IsLawful, lawful_by_number}
use Rattle.ulfm_laws.specs.Ranges.{payload_bits, same_word}
use Rattle.ulfm_laws.specs.Counts.{max_assoc}
use Rattle.ulfm_contributions.specs.declared.flag_or.FlagOr.{FlagOr}

-- no bit
abbrev pub or_unit : FlagOr
or_unit = record { bits = 0; fits = lit< tt }

-- the bits that either has
abbrev pub or_meld : FlagOr → FlagOr → FlagOr
or_meld x y = record { bits = bit_or x.bits y.bits; fits = or_lt payload_bits x.bits y.bits x.fits y.fits }

-- values with the same bits are the same
pub same_or : (x y : FlagOr) → x.bits ≡ y.bits → x ≡ y
same_or x y = same_word (λ n fits. record { bits = n; fits = fits }) x.fits y.fits

-- the bits that one of three has, in either grouping
or_assoc : (a b c : ℕ) → bit_or (bit_or a b) c ≡ bit_or a (bit_or b c)
or_assoc a b c = same_from_bits (bit_or (bit_or a b) c) (bit_or a (bit_or b c)) at
  where
    at : (i : ℕ) → bit_at (bit_or (bit_or a b) c) i ≡ bit_at (bit_or a (bit_or b c)) i
    at i =
        let left = bit_at_or (bit_or a b) c i ∙ ap (λ bit. max bit (bit_at c i)) (bit_at_or a b i) in
        let right = bit_at_or a (bit_or b c) i ∙ ap (max (bit_at a i)) (bit_at_or b c i) in
        left ∙ (max_assoc (bit_at a i) (bit_at b i) (bit_at c i) ∙ sym right)

pub or_lawful : IsLawful or_unit or_meld
or_lawful =
    lawful_by_number (λ x. x.bits) same_or
    (λ x y z. or_assoc x.bits y.bits z.bits) (λ x y. or_comm x.bits y.bits) (λ x. or_self x.bits) (λ x. refl)

-- The value of a word. A word is below 2 ^ payload_bits, so the remainder is the word itself.
abbrev pub or_unpack : ℕ → Option FlagOr
or_unpack word = Some (record { bits = word % 2 ^ payload_bits; fits = mod-lt word (lit< tt) })

pub or_unpack_pack : (x : FlagOr) → or_unpack x.bits ≡ Some x
or_unpack_pack x =
    ap Some (same_or (record { bits = x.bits % 2 ^ payload_bits; fits = mod-lt x.bits (lit< tt) }) x (mod-eq_of_lt x.fits))
