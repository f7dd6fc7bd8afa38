-- A flag is read just where it is printed.
use Rattle.std.proofs.Common.{◌≡◌, ◌≢◌, ℕ, zero, suc, ◌+◌, ◌-◌, ◌*◌, ◌/◌, ◌%◌, ◌^◌, ◌<◌, ◌≤◌, List, [], ◌∷◌, ◌++◌, length, Option, Some, None, Result, Ok, Err, Bool, true, false, cond, refl, sym, ap, ◌∙◌, append_assoc, inl, inr, arith, add-one, mod-eq_of_lt, mod-lt, lit<, lit≤, length-append, subst}
use Rattle.std.specs.{Prelude.{◌⊎◌, ◌&&◌, ◌==◌, if◌then◌else◌, nat_lt, slice_index}, List.{AllByRecursion}}
use Rattle.std.proofs.lemmas.{Bool.{cases_lt, eq-eqb, eqb-true, lt-ltb, le-ltb, lt-leb, le-leb, ne_eqb}, Bool.Decides.{nat_tests}, List.{append-nil, get_or-append-add}, Nat.{div-mul-add, mod-mul-add, div-add-mod', pow-add}}
use Rattle.ulfm_laws.specs.{declared.flag_and.FlagAnd.{FlagAnd}, Flags.{same_flag}, Ranges.{payload_bits}}
use Rattle.ulfm_script.specs.declared.line_kind.LineKind.{LineKind}
use Rattle.ulfm_script.specs.declared.line_kind.LineKind.TheVariants.{Flag}
use Rattle.ulfm_script.specs.declared.version.Version.{Version}
use Rattle.ulfm_script.specs.declared.version.Version.TheVariants.{First, Second}
use Rattle.ulfm_script.specs.Digits.{MayPad, MayPadIn, digits_after, read_flag, read_flag_in, read_printed_flag, flag_text, half_digits, hex_digit, hex_digits, hex_of, padded_text, printed_digits, spelled_flag, spells_flag, whole_digits}
use Rattle.ulfm_script.specs.{Spelling.{has_more}, Steps.{◌>>=◌, or_fault}}

-- the flag of a word
abbrev as_flag : ℕ → FlagAnd
as_flag n = record { bits = n % 2 ^ payload_bits; fits = mod-lt n (lit< tt) }

digit_again : (d : ℕ) → d < 16 → hex_of (hex_digit d) ≡ Some d
digit_again d h = elim (cases_lt d 10) [
  | inl low ↦ rw (lt-ltb d 10 low, le-leb 48 (48 + d) (omega arith), le-leb (48 + d) 57 (omega (arith, low))) (ap (λ (k : ℕ). Some k) (omega arith))
  | inr high ↦ rw (le-ltb d 10 high, le-leb 48 (87 + d) (omega arith), lt-leb (87 + d) 57 (omega (arith, high)), le-leb 97 (87 + d) (omega (arith, high)), le-leb (87 + d) 102 (omega (arith, h))) (ap (λ (k : ℕ). Some k) (omega (arith, high)))
]

pub digit_found : (c d : ℕ) → hex_of c ≡ Some d → (d < 16) × (hex_digit d ≡ c)
digit_found c d e = (grind (arith, nat_tests, e), grind (arith, nat_tests, e))

-- what one more digit behind a value gives
abbrev then_digit : ℕ → ℕ → Result ℕ LineKind
then_digit c n = or_fault Flag (hex_of c) >>= λ d. Ok (n * 16 + d)

-- the value of hexadecimal digits behind others of this value
abbrev hex_after : ℕ → List ℕ → Result ℕ LineKind
hex_after value ds = digits_after Flag 16 hex_of value ds

snoc_step : (value c : ℕ) (xs : List ℕ) (o : Option ℕ) → ((v : ℕ) → hex_after v (xs ++ c ∷ []) ≡ (hex_after v xs >>= then_digit c))
    → (or_fault Flag o >>= λ d. hex_after (value * 16 + d) (xs ++ c ∷ [])) ≡ ((or_fault Flag o >>= λ d. hex_after (value * 16 + d) xs) >>= then_digit c)
snoc_step value c xs None rest = refl
snoc_step value c xs (Some d) rest = rest (value * 16 + d)

-- one more digit at the end
digits_snoc : (value c : ℕ) (ds : List ℕ) → hex_after value (ds ++ c ∷ []) ≡ (hex_after value ds >>= then_digit c)
digits_snoc value c [] = refl
digits_snoc value c (x ∷ xs) = snoc_step value c xs (hex_of x) (λ v. digits_snoc v c xs)

-- a number without its last so many digits
abbrev pub cut_off : ℕ → ℕ → ℕ
cut_off zero n = n
cut_off (suc count) n = cut_off count (n / 16)

digit_joins : (n : ℕ) → then_digit (hex_digit (n % 16)) (n / 16) ≡ Ok n
digit_joins n = rw (digit_again (n % 16) (omega arith)) (ap (λ (k : ℕ). Ok k) (div-add-mod' n 16))

-- digits behind what they were cut off
digits_again : (count n : ℕ) → hex_after (cut_off count n) (hex_digits count n) ≡ Ok n
digits_again zero n = refl
digits_again (suc count) n = rw (digits_snoc (cut_off count (n / 16)) (hex_digit (n % 16)) (hex_digits count (n / 16)), digits_again count (n / 16)) (digit_joins n)

pub length_digits : (count n : ℕ) → length (hex_digits count n) ≡ count
length_digits zero n = refl
length_digits (suc count) n = rw (length-append (hex_digits count (n / 16)) (hex_digit (n % 16) ∷ []), length_digits count (n / 16)) (omega arith)

-- the first digit, and the number without it
first_digit : (count n : ℕ) → (hex_digits (suc count) n ≡ hex_digit (cut_off count n % 16) ∷ hex_digits count n) × (cut_off (suc count) n ≡ cut_off count n / 16)
first_digit zero n = (refl, refl)
first_digit (suc count) n = let h = first_digit count (n / 16) in (ap (λ (ds : List ℕ). ds ++ hex_digit (n % 16) ∷ []) h.0, h.1)

more_found : (value n c : ℕ) (cs : List ℕ) (o : Option ℕ) → hex_of c ≡ o → (or_fault Flag o >>= λ d. hex_after (value * 16 + d) cs) ≡ Ok n
    → ((v : ℕ) → hex_after v cs ≡ Ok n → (cs ≡ hex_digits (length cs) n) × (cut_off (length cs) n ≡ v))
    → (c ∷ cs ≡ hex_digits (suc (length cs)) n) × (cut_off (suc (length cs)) n ≡ value)
more_found value n c cs None is e rest = absurd cc
more_found value n c cs (Some d) is e rest =
    let h = rest (value * 16 + d) e in
    let digit = digit_found c d is in
    let first = first_digit (length cs) n in
    let last : cut_off (length cs) n % 16 ≡ d = ap (λ (k : ℕ). k % 16) h.1 ∙ mod-mul-add value 16 d digit.0 in
    let head : c ≡ hex_digit (cut_off (length cs) n % 16) = sym (ap hex_digit last ∙ digit.1) in
    (ap (λ (x : ℕ). x ∷ cs) head ∙ ap (λ (xs : List ℕ). hex_digit (cut_off (length cs) n % 16) ∷ xs) h.0 ∙ sym first.0, first.1 ∙ ap (λ (k : ℕ). k / 16) h.1 ∙ div-mul-add value 16 d digit.0)

-- digits are those of their value
digits_found : (value n : ℕ) (w : List ℕ) → hex_after value w ≡ Ok n → (w ≡ hex_digits (length w) n) × (cut_off (length w) n ≡ value)
digits_found value n [] e = (refl, cc)
digits_found value n (c ∷ cs) e = more_found value n c cs (hex_of c) refl e (λ v k. digits_found v n cs k)

bits_kept : (n : ℕ) → n < 2 ^ payload_bits → n % 2 ^ payload_bits ≡ n
bits_kept n h = mod-eq_of_lt h

-- nothing is left of a number that has no more digits than are cut off
cut_small : (count n : ℕ) → n < 16 ^ count → cut_off count n ≡ 0
cut_small zero n h = omega (arith, h)
cut_small (suc count) n h = cut_small count (n / 16) (let next : 16 ^ suc count ≡ 16 ^ count * 16 = rw add-one at (pow-add 16 count 1) in omega (arith, h, next))

small_cut : (count n : ℕ) → cut_off count n ≡ 0 → n < 16 ^ count
small_cut zero n h = omega (arith, h)
small_cut (suc count) n h =
    let some : n / 16 < 16 ^ count = small_cut count (n / 16) h in
    let next : 16 ^ suc count ≡ 16 ^ count * 16 = rw add-one at (pow-add 16 count 1) in
    omega (arith, some, next)

-- the counts of digits that spell a flag
abbrev pub IsLength : ℕ → Type 0
IsLength count = (count ≡ half_digits) ⊎ (count ≡ whole_digits)

length_found : (count : ℕ) → spells_flag count ≡ true → IsLength count
length_found count is = go (count == half_digits) refl
  where
    go : (b : Bool) → (count == half_digits) ≡ b → IsLength count
    go true half = inl (eqb-true count half_digits half)
    go false half = inr (eqb-true count whole_digits (rw half at is))

length_spells : (count : ℕ) → IsLength count → spells_flag count ≡ true
length_spells count (inl is) = rw is refl
length_spells count (inr is) = rw is refl

length_fits : (count n : ℕ) → IsLength count → n < 16 ^ count → n < 2 ^ payload_bits
length_fits count n (inl is) small = let few : n < 16 ^ half_digits = subst (λ k. n < 16 ^ k) is small in omega (arith, few)
length_fits count n (inr is) small = subst (λ k. n < 16 ^ k) is small

-- the digits of a flag are read, where it has no more
digits_are_flag : (count : ℕ) (flag : FlagAnd) → spells_flag count ≡ true → flag.bits < 16 ^ count → read_flag (hex_digits count flag.bits) ≡ Ok flag
unfolding read_flag
digits_are_flag count flag is small =
    let all : cut_off count flag.bits ≡ 0 = cut_small count flag.bits small in
    let read : hex_after 0 (hex_digits count flag.bits) ≡ Ok flag.bits = rw all at (digits_again count flag.bits) in
    rw (length_digits count flag.bits, is, read) (ap (λ (x : FlagAnd). Ok x) (same_flag (as_flag flag.bits) flag (bits_kept flag.bits flag.fits)))

-- a word that was read as a flag has its digits
record IsRead (w : List ℕ) (flag : FlagAnd) : Type 0 where
  long : IsLength (length w)
  word_is : w ≡ hex_digits (length w) flag.bits
  small : flag.bits < 16 ^ length w

flag_from : (w : List ℕ) (flag : FlagAnd) (b : Bool) (r : Result ℕ LineKind) → spells_flag (length w) ≡ b → hex_after 0 w ≡ r
    → cond b (r >>= λ n. Ok (as_flag n)) (Err Flag) ≡ Ok flag → IsRead w flag
flag_from w flag false r long read e = absurd cc
flag_from w flag true (Err kind) long read e = absurd cc
flag_from w flag true (Ok n) long read e =
    let h = digits_found 0 n w read in
    let is_long = length_found (length w) long in
    let small : n < 16 ^ length w = small_cut (length w) n h.1 in
    let is : as_flag n ≡ flag = cc in
    let bits : n ≡ flag.bits = sym (bits_kept n (length_fits (length w) n is_long small)) ∙ ap (λ (x : FlagAnd). x.bits) is in
    record { long = is_long; word_is = h.0 ∙ ap (λ (k : ℕ). hex_digits (length w) k) bits; small = subst (λ k. k < 16 ^ length w) bits small }

was_read : (w : List ℕ) (flag : FlagAnd) → read_flag w ≡ Ok flag → IsRead w flag
unfolding read_flag
was_read w flag e = flag_from w flag (spells_flag (length w)) (hex_after 0 w) refl refl e

-- how many digits are printed
pub few_printed : (flag : FlagAnd) → flag.bits < 16 ^ half_digits → printed_digits flag ≡ half_digits
few_printed flag small = rw (lt-ltb flag.bits (16 ^ half_digits) small) refl

pub all_printed : (flag : FlagAnd) → 16 ^ half_digits ≤ flag.bits → printed_digits flag ≡ whole_digits
all_printed flag great = rw (le-ltb flag.bits (16 ^ half_digits) great) refl

-- a flag that was printed is read
pub flag_again : (flag : FlagAnd) → read_flag (flag_text flag) ≡ Ok flag
unfolding flag_text
flag_again flag = elim (cases_lt flag.bits (16 ^ half_digits)) [
  | inl small ↦ rw (few_printed flag small) (digits_are_flag half_digits flag refl small)
  | inr great ↦ rw (all_printed flag great) (digits_are_flag whole_digits flag refl flag.fits)
]

-- and so is one with all its digits
pub spelled_flag_again : (padded : Bool) (flag : FlagAnd) → read_flag (spelled_flag padded flag) ≡ Ok flag
unfolding padded_text
spelled_flag_again false flag = flag_again flag
spelled_flag_again true flag = digits_are_flag whole_digits flag refl flag.fits

-- how a word spells a flag
pub record IsSpelledFlag (w : List ℕ) (flag : FlagAnd) : Type 0 where
  pub padded : Bool
  pub may_pad : MayPad padded flag
  pub word_is : w ≡ spelled_flag padded flag

-- a flag that was read is spelled so
pub flag_found : (w : List ℕ) (flag : FlagAnd) → read_flag w ≡ Ok flag → IsSpelledFlag w flag
unfolding flag_text padded_text
flag_found w flag e = by_length (was_read w flag e).long
  where
    as_long : (count : ℕ) → length w ≡ count → w ≡ hex_digits count flag.bits
    as_long count is = (was_read w flag e).word_is ∙ ap (λ (k : ℕ). hex_digits k flag.bits) is

    by_length : IsLength (length w) → IsSpelledFlag w flag
    by_length (inl half) =
        let small : flag.bits < 16 ^ half_digits = subst (λ k. flag.bits < 16 ^ k) half (was_read w flag e).small in
        record { padded = false; may_pad = tt; word_is = as_long half_digits half ∙ ap (λ (k : ℕ). hex_digits k flag.bits) (sym (few_printed flag small)) }
    by_length (inr whole) = elim (cases_lt flag.bits (16 ^ half_digits)) [
      | inl small ↦ record { padded = true; may_pad = small; word_is = as_long whole_digits whole }
      | inr great ↦ record { padded = false; may_pad = tt; word_is = as_long whole_digits whole ∙ ap (λ (k : ℕ). hex_digits k flag.bits) (sym (all_printed flag great)) }
    ]

-- a flag has as many digits as are printed
length-flag_text : (flag : FlagAnd) → length (flag_text flag) ≡ printed_digits flag
unfolding flag_text
length-flag_text flag = length_digits (printed_digits flag) flag.bits

printed_few : (flag : FlagAnd) → (0 < printed_digits flag) × (printed_digits flag ≤ whole_digits)
printed_few flag = elim (cases_lt flag.bits (16 ^ half_digits)) [
  | inl small ↦ rw (few_printed flag small) (lit< tt, lit≤ tt)
  | inr great ↦ rw (all_printed flag great) (lit< tt, lit≤ tt)
]

-- a flag has some digits, and no more than sixteen
pub spelled_few : (padded : Bool) (flag : FlagAnd) → (0 < length (spelled_flag padded flag)) × (length (spelled_flag padded flag) ≤ whole_digits)
unfolding padded_text
spelled_few false flag = rw (length-flag_text flag) (printed_few flag)
spelled_few true flag = rw (length_digits whole_digits flag.bits) (lit< tt, lit≤ tt)

-- a flag that was printed has as many digits as are printed
pub printed_again : (flag : FlagAnd) → read_printed_flag (flag_text flag) ≡ Ok flag
unfolding read_printed_flag
printed_again flag = rw (flag_again flag, length-flag_text flag, eq-eqb (printed_digits flag) (printed_digits flag) refl) refl

printed_from : (w : List ℕ) (flag : FlagAnd) (r : Result FlagAnd LineKind) → read_flag w ≡ r
    → (r >>= λ f. if length w == printed_digits f then Ok f else Err Flag) ≡ Ok flag → w ≡ flag_text flag
unfolding flag_text
printed_from w flag (Err kind) read e = absurd cc
printed_from w flag (Ok f) read e = go (length w == printed_digits f) refl e
  where
    go : (b : Bool) → (length w == printed_digits f) ≡ b → cond b (Ok f) (Err Flag) ≡ Ok flag → w ≡ flag_text flag
    go false long e = absurd cc
    go true long e =
        let same : f ≡ flag = cc in
        (was_read w f read).word_is ∙ ap (λ (k : ℕ). hex_digits k f.bits) (eqb-true (length w) (printed_digits f) long) ∙ ap flag_text same

-- a flag that was read so is printed so
pub printed_found : (w : List ℕ) (flag : FlagAnd) → read_printed_flag w ≡ Ok flag → w ≡ flag_text flag
unfolding read_printed_flag
printed_found w flag e = printed_from w flag (read_flag w) refl e

all_snoc : (xs : List ℕ) (x : ℕ) → AllByRecursion (λ y. y ≢ 32) xs → x ≢ 32 → AllByRecursion (λ y. y ≢ 32) (xs ++ x ∷ [])
all_snoc [] x h k = (k, tt)
all_snoc (y ∷ ys) x h k = (h.0, all_snoc ys x h.1 k)

no_space : (d : ℕ) → hex_digit d ≢ 32
no_space d e = elim (cases_lt d 10) [
  | inl low ↦ (let k : 48 + d ≡ 32 = rw (lt-ltb d 10 low) at e in omega (arith, k))
  | inr high ↦ (let k : 87 + d ≡ 32 = rw (le-ltb d 10 high) at e in omega (arith, k))
]

no_spaces : (count n : ℕ) → AllByRecursion (λ x. x ≢ 32) (hex_digits count n)
no_spaces zero n = tt
no_spaces (suc count) n = all_snoc (hex_digits count (n / 16)) (hex_digit (n % 16)) (no_spaces count (n / 16)) (no_space (n % 16))

-- a flag has no space in it
pub spelled_free : (padded : Bool) (flag : FlagAnd) → AllByRecursion (λ x. x ≢ 32) (spelled_flag padded flag)
unfolding flag_text padded_text
spelled_free false flag = no_spaces (printed_digits flag) flag.bits
spelled_free true flag = no_spaces whole_digits flag.bits

-- the first digits of a number, and the others
pub digits_split : (first count n : ℕ) → hex_digits (first + count) n ≡ hex_digits first (cut_off count n) ++ hex_digits count n
digits_split first zero n = let none : first + 0 ≡ first = omega arith in ap (λ (k : ℕ). hex_digits k n) none ∙ sym (append-nil (hex_digits first n))
digits_split first (suc count) n =
    let more : first + suc count ≡ suc (first + count) = omega arith in
    ap (λ (k : ℕ). hex_digits k n) more
    ∙ ap (λ (ds : List ℕ). ds ++ hex_digit (n % 16) ∷ []) (digits_split first count (n / 16))
    ∙ append_assoc (hex_digits first (cut_off count (n / 16))) (hex_digits count (n / 16)) (hex_digit (n % 16) ∷ [])

-- what stands so many places before the end
before_end : (front back : List ℕ) (x count : ℕ) → length back ≡ count
    → (nat_lt count (length (front ++ x ∷ back)) ≡ true) × (slice_index (front ++ x ∷ back) (length (front ++ x ∷ back) - count - 1) ≡ x)
before_end front back x count is =
    let long : length (front ++ x ∷ back) ≡ length front + suc (length back) = length-append front (x ∷ back) in
    let at : length (front ++ x ∷ back) - count - 1 ≡ length front + 0 = omega (arith, long, is) in
    (lt-ltb count (length (front ++ x ∷ back)) (omega (arith, long, is)), ap (λ (i : ℕ). slice_index (front ++ x ∷ back) i) at ∙ get_or-append-add front (x ∷ back) 0 0)

-- all digits of a short flag: the last half stands behind further ones
module _ (front : List ℕ) (flag : FlagAnd) (small : flag.bits < 16 ^ half_digits) where
  abbrev upper : ℕ
  upper = cut_off half_digits flag.bits

  abbrev further : List ℕ
  further = front ++ 32 ∷ hex_digits (half_digits - 1) (upper / 16)

  whole_is : front ++ 32 ∷ hex_digits whole_digits flag.bits ≡ further ++ hex_digit (upper % 16) ∷ hex_digits half_digits flag.bits
  whole_is =
      ap (λ (ds : List ℕ). front ++ 32 ∷ ds) (digits_split half_digits half_digits flag.bits ∙ append_assoc (hex_digits (half_digits - 1) (upper / 16)) (hex_digit (upper % 16) ∷ []) (hex_digits half_digits flag.bits))
      ∙ sym (append_assoc front (32 ∷ hex_digits (half_digits - 1) (upper / 16)) (hex_digit (upper % 16) ∷ hex_digits half_digits flag.bits))

-- a line that ends in a flag tells how it is spelled
pub padded_told : (line front : List ℕ) (padded : Bool) (flag : FlagAnd) → MayPad padded flag → line ≡ front ++ 32 ∷ spelled_flag padded flag
    → nat_lt flag.bits (16 ^ half_digits) && has_more line half_digits ≡ padded
unfolding flag_text padded_text
padded_told line front false flag may is = elim (cases_lt flag.bits (16 ^ half_digits)) [
  | inl small ↦
      let line_is : line ≡ front ++ 32 ∷ hex_digits half_digits flag.bits = is ∙ ap (λ (k : ℕ). front ++ 32 ∷ hex_digits k flag.bits) (few_printed flag small) in
      let at = before_end front (hex_digits half_digits flag.bits) 32 half_digits (length_digits half_digits flag.bits) in
      ap (λ (l : List ℕ). nat_lt flag.bits (16 ^ half_digits) && has_more l half_digits) line_is ∙ rw (lt-ltb flag.bits (16 ^ half_digits) small, at.0, at.1) refl
  | inr great ↦ rw (le-ltb flag.bits (16 ^ half_digits) great) refl
]
padded_told line front true flag small is =
    let line_is : line ≡ further front flag small ++ hex_digit (upper front flag small % 16) ∷ hex_digits half_digits flag.bits = is ∙ whole_is front flag small in
    let at = before_end (further front flag small) (hex_digits half_digits flag.bits) (hex_digit (upper front flag small % 16)) half_digits (length_digits half_digits flag.bits) in
    ap (λ (l : List ℕ). nat_lt flag.bits (16 ^ half_digits) && has_more l half_digits) line_is
    ∙ rw (lt-ltb flag.bits (16 ^ half_digits) small, at.0, at.1, ne_eqb (hex_digit (upper front flag small % 16)) 32 (no_space (upper front flag small % 16))) refl

-- a flag as a script of this version spells it is read
pub flag_in_again : (version : Version) (padded : Bool) (flag : FlagAnd) → MayPadIn version padded flag → read_flag_in version (spelled_flag padded flag) ≡ Ok flag
unfolding read_flag_in padded_text
flag_in_again First padded flag may = spelled_flag_again padded flag
flag_in_again Second true flag may = rw (length_digits whole_digits flag.bits) (spelled_flag_again true flag)
flag_in_again Second false flag may = absurd (cc may)

-- how a word spells a flag in a script of this version
pub record IsSpelledIn (version : Version) (w : List ℕ) (flag : FlagAnd) : Type 0 where
  pub padded : Bool
  pub may_pad : MayPadIn version padded flag
  pub word_is : w ≡ spelled_flag padded flag

-- a flag that was read is spelled so
pub flag_in_found : (version : Version) (w : List ℕ) (flag : FlagAnd) → read_flag_in version w ≡ Ok flag → IsSpelledIn version w flag
unfolding read_flag_in padded_text
flag_in_found First w flag e = let f = flag_found w flag e in record { padded = f.padded; may_pad = f.may_pad; word_is = f.word_is }
flag_in_found Second w flag e = by (length w == whole_digits) refl e
  where
    by : (b : Bool) → (length w == whole_digits) ≡ b → cond b (read_flag w) (Err Flag) ≡ Ok flag → IsSpelledIn Second w flag
    by true is read = record { padded = true; may_pad = refl; word_is = (was_read w flag read).word_is ∙ ap (λ (k : ℕ). hex_digits k flag.bits) (eqb-true (length w) whole_digits is) }
    by false is read = absurd (cc read)

-- a flag of the word that was read
pub flag_read : (w : List ℕ) (r : Result ℕ LineKind) (bits : ℕ) → IsLength (length w) → r ≡ hex_after 0 w → r ≡ Ok bits → (fits : bits < 2 ^ payload_bits) → read_flag w ≡ Ok (record { bits = bits; fits = fits })
unfolding read_flag
flag_read w r bits long is ok fits =
    let read : hex_after 0 w ≡ Ok bits = sym is ∙ ok in
    let flag : FlagAnd = record { bits = bits; fits = fits } in
    rw (length_spells (length w) long, read) (ap (λ (x : FlagAnd). Ok x) (same_flag (as_flag bits) flag (bits_kept bits fits)))
