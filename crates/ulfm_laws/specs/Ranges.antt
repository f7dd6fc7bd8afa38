-- Numbers that keep a range.
use Rattle.std.specs.Prelude.{◌≡◌, ℕ, ◌<◌, ◌^◌, ◌-◌, Bool, ◌||◌, ◌==◌, nat_le, bit_and}
use Rattle.std.specs.Coded.{le_prop}
use Rattle.std.proofs.Common.{ap, subst, ◌∙◌, mod-eq_of_lt}
use Rattle.std.proofs.lemmas.Nat.{and_comm, and_mask}

-- a number of acknowledged failures, or 2047 for everyone
abbrev pub is_acked_count : ℕ → Bool
is_acked_count n = nat_le n 1024 || (n == 2047)

-- what makes a value of a number: which numbers fit, that they fit in one way alone, and the value of a number that fits
pub record Numbered (P : Type 0) : Type 1 where
  pub Fits : ℕ → Type 0
  pub one_way : (n : ℕ) → IsProp (Fits n)
  pub value : (n : ℕ) → Fits n → P

-- a value that is a number with a fact about it is known by its number
pub same_by_number : {P : Type 0} (kind : Numbered P) {m n : ℕ} (fit : kind.Fits m) (fits : kind.Fits n) → m ≡ n → kind.value m fit ≡ kind.value n fits
same_by_number kind {m} {n} fit fits e =
    let Same : ℕ → Type 0 = λ k. (other : kind.Fits k) → kind.value m fit ≡ kind.value k other in
    subst Same e (λ other. ap (kind.value m) (kind.one_way m fit other)) fits

-- how many bits a payload has: a flag, or a mask of context ids
abbrev pub payload_bits : ℕ
payload_bits = 64

-- a value that is a word's number with the fact that it fits is known by its number
pub same_word :
    {P : Type 0} (value : (n : ℕ) → n < 2 ^ payload_bits → P) {m n : ℕ} (fit : m < 2 ^ payload_bits) (fits : n < 2 ^ payload_bits)
    → m ≡ n → value m fit ≡ value n fits
same_word value fit fits = same_by_number (record { Fits = λ n. n < 2 ^ payload_bits; one_way = λ n. le_prop; value = value }) fit fits

-- the word with every bit
abbrev pub all_ones : ℕ
all_ones = 2 ^ payload_bits - 1

-- a word of so many bits has no bit but those
pub ones-and : (word : ℕ) → word < 2 ^ payload_bits → bit_and all_ones word ≡ word
ones-and word fits = and_comm all_ones word ∙ (and_mask word payload_bits ∙ mod-eq_of_lt fits)
