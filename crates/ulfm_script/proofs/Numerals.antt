-- A decimal number is read just where it is printed.
use Rattle.std.proofs.Common.{◌≡◌, ℕ, ◌+◌, ◌-◌, ◌*◌, ◌^◌, ◌<◌, ◌≤◌, List, [], ◌∷◌, length, get_or, Some, None, Result, Ok, Err, Bool, true, false, cond, ◌&&◌, ◌||◌, refl, sym, ap, ◌∙◌, inl, inr, arith, rules}
use Rattle.std.specs.{Prelude.{◌⊎◌, ◌==◌, nat_lt}, Int.{IsInRange}, Fmt.{decimal}}
use Rattle.std.proofs.lemmas.{Bool.{cases_lt, lt-leb, le-leb, le-ltb, ltb-false}, Bool.Decides.{nat_tests}, Str.Parse.{IsNumeralModel, numerals_by_fold, digits_value_short}, Fmt.{decimal-digits_value, digits_decimal, digits_value-decimal, length-decimal-le, decimal_nonempty, decimal_digit, first_decimal}}
use Rattle.ulfm_script.specs.declared.line_kind.LineKind.{LineKind}
use Rattle.ulfm_script.specs.declared.line_kind.LineKind.TheVariants.{Number}
use Rattle.ulfm_script.specs.Digits.{digit_of, digits_after, number_in, read_number, number_to, read_point}

-- all are decimal digits
abbrev pub AreDigits : List ℕ → Type 0
AreDigits [] = Unit {0}
AreDigits (c ∷ cs) = IsInRange 48 57 c × AreDigits cs

-- the value of digits behind others of this value
abbrev pub read_on : ℕ → List ℕ → ℕ
read_on n [] = n
read_on n (c ∷ cs) = read_on (n * 10 + (c - 48)) cs

-- reading on is the value of decimal digits
pub own : IsNumeralModel AreDigits (read_on 0)
own = numerals_by_fold AreDigits (search rules) read_on (search rules)

digit_is : (c : ℕ) → IsInRange 48 57 c → digit_of c ≡ Some (c - 48)
digit_is c h = grind (arith, nat_tests, h)

digit_cases : (c : ℕ) → (IsInRange 48 57 c) ⊎ (digit_of c ≡ None)
digit_cases c = elim (cases_lt c 48) [
  | inl low ↦ inr (rw (lt-leb 48 c low) refl)
  | inr high ↦ elim (cases_lt 57 c) [
    | inl past ↦ inr (rw (le-leb 48 c high, lt-leb c 57 past) refl)
    | inr fits ↦ inl (search (rules, high, fits))
  ]
]

digits_read : (n v : ℕ) (ds : List ℕ) → digits_after Number 10 digit_of n ds ≡ Ok v → AreDigits ds × (v ≡ read_on n ds)
digits_read n v [] e = (tt, cc)
digits_read n v (c ∷ cs) e = elim (digit_cases c) [
  | inl fits ↦ (let h = digits_read (n * 10 + (c - 48)) v cs (rw (digit_is c fits) at e) in ((fits, h.0), h.1))
  | inr none ↦ absurd (let k : Err Number ≡ Ok v = rw none at e in cc)
]

digits_again : (n : ℕ) (ds : List ℕ) → AreDigits ds → digits_after Number 10 digit_of n ds ≡ Ok (read_on n ds)
digits_again n [] h = refl
digits_again n (c ∷ cs) h = rw (digit_is c h.0) (digits_again (n * 10 + (c - 48)) cs h.1)

-- behind a test that is a fault where it holds
pub passed : {A : Type 0} (b : Bool) (kind : LineKind) (y : Result A LineKind) (z : A) → cond b (Err kind) y ≡ Ok z → (b ≡ false) × (y ≡ Ok z)
passed true kind y z e = absurd cc
passed false kind y z e = (refl, e)

-- the test of a number's length and first digit
abbrev pub is_bad : ℕ → ℕ → ℕ → Bool
is_bad most n first = (n == 0) || nat_lt most n || (nat_lt 1 n && (first == 48))

pub not_empty : (most n first : ℕ) → is_bad most n first ≡ false → 0 < n
not_empty most n first e = grind (arith, nat_tests, e)

not_long : (most n first : ℕ) → is_bad most n first ≡ false → n ≤ most
not_long most n first e = grind (arith, nat_tests, e)

zero_alone : (most n first : ℕ) → is_bad most n first ≡ false → first ≡ 48 → n ≡ 1
zero_alone most n first e z = grind (arith, nat_tests, e, z)

is_good : (most n first : ℕ) → 0 < n → n ≤ most → (first ≡ 48 → n ≡ 1) → is_bad most n first ≡ false
is_good most n first some short alone = grind (arith, nat_tests, some, short, alone)

-- a number of at most so many digits that was read is printed so
in_found : (most : ℕ) (w : List ℕ) (n : ℕ) → 10 ^ most < 2 ^ 64 → number_in most w ≡ Ok n → (n < 10 ^ most) × (w ≡ decimal n)
unfolding number_in
in_found most w n wide e =
    let h = passed (is_bad most (length w) (get_or w 0 0)) Number (digits_after Number 10 digit_of 0 w) n e in
    let t = digits_read 0 n w h.1 in
    let some = not_empty most (length w) (get_or w 0 0) h.0 in
    let short = not_long most (length w) (get_or w 0 0) h.0 in
    let small : read_on 0 w < 10 ^ most = digits_value_short own w most t.0 short in
    let is : decimal (read_on 0 w) ≡ w = decimal-digits_value own w t.0 some (zero_alone most (length w) (get_or w 0 0) h.0) (omega (arith, small, wide)) in
    (omega (arith, small, t.1), sym (ap decimal t.1 ∙ is))

-- a number that was read is printed so
pub number_found : (w : List ℕ) (n : ℕ) → read_number w ≡ Ok n → (n < 10000) × (w ≡ decimal n)
number_found w n e = in_found 4 w n (omega arith) e

-- and so is a count of events
pub point_found : (w : List ℕ) (n : ℕ) → read_point w ≡ Ok n → (n < 10000000) × (w ≡ decimal n)
point_found w n e = in_found 7 w n (omega arith) e

-- what was read is in its range
pub number_fits : (r : Result ℕ LineKind) (w : List ℕ) (n : ℕ) → r ≡ read_number w → r ≡ Ok n → n < 10000
number_fits r w n e f = (number_found w n (sym e ∙ f)).0

one_zero : (n : ℕ) → n < 2 ^ 64 → get_or (decimal n) 0 0 ≡ 48 → length (decimal n) ≡ 1
one_zero n wide e = elim (cases_lt 0 n) [
  | inl some ↦ absurd (let h = first_decimal n some wide in omega (arith, h, e))
  | inr none ↦ ap (λ (ds : List ℕ). length ds) (decimal_digit n (omega arith))
]

in_again : (most n : ℕ) → 0 < most → 10 ^ most < 2 ^ 64 → n < 10 ^ most → number_in most (decimal n) ≡ Ok n
unfolding number_in
in_again most n some small h =
    let wide : n < 2 ^ 64 = omega (arith, h, small) in
    let good = is_good most (length (decimal n)) (get_or (decimal n) 0 0) (decimal_nonempty n wide) (length-decimal-le most n some h wide) (one_zero n wide) in
    rw (good, digits_again 0 (decimal n) (digits_decimal own n wide)) (ap (λ (k : ℕ). Ok k) (digits_value-decimal own n wide))

-- a number that was printed is read
pub number_again : (n : ℕ) → n < 10000 → read_number (decimal n) ≡ Ok n
number_again n h = in_again 4 n (omega arith) (omega arith) (omega (arith, h))

-- and so is a count of events
pub point_again : (n : ℕ) → n < 10000000 → read_point (decimal n) ≡ Ok n
point_again n h = in_again 7 n (omega arith) (omega arith) (omega (arith, h))

-- the same up to a greatest number
pub number_to_again : (most n : ℕ) → most < 10000 → n ≤ most → number_to most (decimal n) ≡ Ok n
unfolding number_to
number_to_again most n small h = rw (number_again n (omega (arith, small, h)), le-ltb most n h) refl

within : (b : Bool) (most m n : ℕ) → nat_lt most m ≡ b → cond b (let r : Result ℕ LineKind = Err Number in r) (Ok m) ≡ Ok n → (m ≤ most) × (m ≡ n)
within true most m n t e = absurd cc
within false most m n t e = (ltb-false most m t, cc)

number_to_from : (most n : ℕ) (w : List ℕ) (r : Result ℕ LineKind) → read_number w ≡ r → number_to most w ≡ Ok n → (n ≤ most) × (w ≡ decimal n)
unfolding number_to
number_to_from most n w (Ok m) r e =
    let h = within (nat_lt most m) most m n refl (rw r at e) in
    (omega (arith, h.0, h.1), (number_found w m r).1 ∙ ap decimal h.1)
number_to_from most n w (Err kind) r e = absurd (let k : Err kind ≡ Ok n = rw r at e in cc)

-- what was read up to a greatest number is printed so
pub number_to_found : (most n : ℕ) (w : List ℕ) → number_to most w ≡ Ok n → (n ≤ most) × (w ≡ decimal n)
number_to_found most n w e = number_to_from most n w (read_number w) refl e
