-- How large a number is of which so many digits were read.
use Rattle.std.proofs.Common.{◌≡◌, ℕ, ◌+◌, ◌*◌, ◌^◌, ◌<◌, ◌≤◌, arith, lit<}
use Rattle.std.proofs.{Math.Nat.{pow-le-pow_right}, lemmas.Nat.{pow-add}}
use Rattle.ulfm_laws.specs.Ranges.{payload_bits}
use Rattle.ulfm_script.specs.Digits.{whole_digits}

-- after at most so many digits of this base the number is below the power of the base by that many
pub record IsBelowPowers (base digits number : ℕ) : Type 0 where
  pub none : digits ≤ 0 → number < 1
  pub one : digits ≤ 1 → number < base
  pub two : digits ≤ 2 → number < base ^ 2
  pub three : digits ≤ 3 → number < base ^ 3
  pub four : digits ≤ 4 → number < base ^ 4
  pub five : digits ≤ 5 → number < base ^ 5
  pub six : digits ≤ 6 → number < base ^ 6
  pub seven : digits ≤ 7 → number < base ^ 7
  pub eight : digits ≤ 8 → number < base ^ 8

-- one more hexadecimal digit
pub one_more_hex : (bits d i : ℕ) → bits < 16 ^ i → d < 16 → bits * 16 + d < 16 ^ (i + 1)
one_more_hex bits d i small digit = let next : 16 ^ (i + 1) ≡ 16 ^ i * 16 = pow-add 16 i 1 in omega (arith, small, digit, next)

-- a whole flag has room for it
pub hex_fits : (bits i : ℕ) → bits < 16 ^ i → i < whole_digits → bits * 16 + 15 < 2 ^ payload_bits
hex_fits bits i small more =
    let great : 16 ^ (i + 1) ≤ 16 ^ whole_digits = pow-le-pow_right (lit< tt) {i = i + 1} {j = whole_digits} (omega (arith, more)) in
    let one = one_more_hex bits 15 i small (lit< tt) in
    omega (arith, great, one)
