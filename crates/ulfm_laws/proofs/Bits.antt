-- The bits of a word, as a list of places.
use Rattle.std.proofs.Common.{◌≡◌, ◌↔◌, ◌<◌, ◌==◌, ℕ, Contains, IsBitSet, bit_and, refl, sym, ◌∙◌, arith, eq-eqb, eqb-true}
use Rattle.std.specs.Int.{bit_at}
use Rattle.std.specs.List.{range_with_len}
use Rattle.std.proofs.lemmas.List.FromFn.{get_or-range_with_len, length-range_with_len}
use Rattle.std.proofs.lemmas.Nat.{bit_set_by_shift}
use Rattle.std.proofs.lemmas.Nat.Bits.{bit_at_and, bit_at-lt, shr_and_one}
use Rattle.ulfm_laws.specs.Ranges.{all_ones, payload_bits}
use Rattle.ulfm_laws.specs.StandsFor.{places, bits_of}
use Rattle.ulfm_laws.proofs.Members.{Contains-filter, Contains-from_filter}

-- the numbers below k
Contains-range : (k n : ℕ) → Contains (range_with_len 0 k) n ↔ (n < k)
Contains-range k n = (below, λ less. (n, omega (arith, length-range_with_len 0 k), omega (arith, get_or-range_with_len 0 k n n less)))
  where
    below : Contains (range_with_len 0 k) n → n < k
    below (i, within, e) =
        let less : i < k = omega (arith, length-range_with_len 0 k) in
        omega (arith, get_or-range_with_len 0 k i n less)

-- a place is a number below the count of bits
Contains-places : (n : ℕ) → Contains places n ↔ (n < payload_bits)
unfolding places
Contains-places n = Contains-range payload_bits n

-- a place of a word's bit is one at which the bit is 1
Contains-bits_of : (word n : ℕ) → Contains (bits_of word) n ↔ ((n < payload_bits) × (bit_at word n ≡ 1))
unfolding bits_of
Contains-bits_of word n =
    (λ member. let parts = Contains-from_filter (λ place. bit_at word place == 1) places n member in ((Contains-places n).0 parts.0, eqb-true (bit_at word n) 1 parts.1), λ parts. Contains-filter (λ place. bit_at word place == 1) places n ((Contains-places n).1 parts.0) (eq-eqb (bit_at word n) 1 parts.1))

-- the same, in std's word
pub Contains-bits_of_set : (word n : ℕ) → Contains (bits_of word) n ↔ ((n < payload_bits) × IsBitSet word n)
Contains-bits_of_set word n =
    let here = Contains-bits_of word n in
    let set = bit_set_by_shift word n in
    let same = shr_and_one word n in
    (λ member. let parts = here.0 member in (parts.0, set.0 (same ∙ parts.1)), λ parts. here.1 (parts.0, sym same ∙ set.1 parts.1))

-- the word with every bit has one at every place
pub bits_of-ones : bits_of all_ones ≡ places
unfolding bits_of places
bits_of-ones = refl

-- an AND has the bits that both have
pub bits_of-and : (a b n : ℕ) → Contains (bits_of (bit_and a b)) n ↔ (Contains (bits_of a) n × Contains (bits_of b) n)
bits_of-and a b n =
    let least = bit_at_and a b n in
    let a_bit = bit_at-lt a n in
    let b_bit = bit_at-lt b n in
    let in_a = Contains-bits_of a n in
    let in_b = Contains-bits_of b n in
    let in_both = Contains-bits_of (bit_and a b) n in
    (λ member. let parts = in_both.0 member in (in_a.1 (parts.0, omega (arith, parts.1)), in_b.1 (parts.0, omega (arith, parts.1))), λ parts. let x = in_a.0 parts.0 in let y = in_b.0 parts.1 in in_both.1 (x.0, omega (arith, x.1, y.1)))
