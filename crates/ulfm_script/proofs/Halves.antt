-- Digits are written two by two, and a word's in halves.
use Rattle.std.proofs.Common.{◌≡◌, ℕ, zero, suc, ◌+◌, ◌-◌, ◌*◌, ◌/◌, ◌%◌, ◌^◌, ◌<◌, List, [], ◌∷◌, ◌++◌, drop, get_or, Bool, true, refl, sym, ap, ◌∙◌, append_assoc, inl, inr, arith}
use Rattle.std.specs.Prelude.{◌&&◌, ◌==◌}
use Rattle.std.proofs.Math.Nat.{eq-or-lt_of_le}
use Rattle.std.proofs.Math.Seq.{drop-append_seam}
use Rattle.std.proofs.lemmas.Bool.{and_parts, cases_lt, eqb-true}
use Rattle.ulfm_laws.specs.declared.flag_and.FlagAnd.{FlagAnd}
use Rattle.ulfm_script.specs.declared.printing.TheConstants.{PAIRS}
use Rattle.ulfm_script.specs.Digits.{half_digits, hex_digit, hex_digits, printed_digits, whole_digits}
use Rattle.ulfm_script.proofs.Hexadecimal.{all_printed, cut_off, digits_split, few_printed, length_digits}

-- the digits of a byte
abbrev pub pair_of : ℕ → List ℕ
pair_of byte = hex_digit (byte / 16) ∷ hex_digit (byte % 16) ∷ []

abbrev is_pair : ℕ → Bool
is_pair n = (get_or PAIRS (n * 2) 0 == hex_digit (n / 16)) && (get_or PAIRS (n * 2 + 1) 0 == hex_digit (n % 16))

abbrev are_pairs : ℕ → Bool
are_pairs zero = true
are_pairs (suc n) = is_pair n && are_pairs n

below : (n byte : ℕ) → are_pairs n ≡ true → byte < n → is_pair byte ≡ true
below zero byte all less = absurd (omega arith)
below (suc n) byte all less =
    let parts = and_parts (is_pair n) (are_pairs n) all in
    elim (eq-or-lt_of_le {n = byte} {m = n} (omega (arith, less))) [
      | inl same ↦ rw same parts.0
      | inr lower ↦ below n byte parts.1 lower
    ]

-- each byte's digits stand in the table
pub pair_at : (byte : ℕ) → byte < 256 → (get_or PAIRS (byte * 2) 0 ≡ hex_digit (byte / 16)) × (get_or PAIRS (byte * 2 + 1) 0 ≡ hex_digit (byte % 16))
pair_at byte less =
    let parts = and_parts (get_or PAIRS (byte * 2) 0 == hex_digit (byte / 16)) (get_or PAIRS (byte * 2 + 1) 0 == hex_digit (byte % 16)) (below 256 byte refl less) in
    (eqb-true _ _ parts.0, eqb-true _ _ parts.1)

-- two more digits
two_more : (count n : ℕ) → hex_digits (suc (suc count)) n ≡ hex_digits count (n / 256) ++ pair_of (n % 256)
two_more count n =
    let above : n / 16 / 16 ≡ n / 256 = omega arith in
    let one : n / 16 % 16 ≡ n % 256 / 16 = omega arith in
    let two : n % 16 ≡ n % 256 % 16 = omega arith in
    append_assoc (hex_digits count (n / 16 / 16)) (hex_digit (n / 16 % 16) ∷ []) (hex_digit (n % 16) ∷ []) ∙ rw (above, one, two) refl

-- eight digits are those of four bytes
pub half_is : (n : ℕ) → hex_digits half_digits n ≡ pair_of (n / 0x1000000 % 256) ++ (pair_of (n / 0x10000 % 256) ++ (pair_of (n / 0x100 % 256) ++ pair_of (n % 256)))
half_is n =
    let two : n / 256 / 256 ≡ n / 0x10000 = omega arith in
    let three : n / 256 / 256 / 256 ≡ n / 0x1000000 = omega arith in
    let last = λ (ds : List ℕ). ds ++ pair_of (n % 256) in
    let third = λ (ds : List ℕ). last (ds ++ pair_of (n / 256 % 256)) in
    let second = λ (ds : List ℕ). third (ds ++ pair_of (n / 256 / 256 % 256)) in
    let behind = λ (k : ℕ). pair_of (k % 256) ++ (pair_of (n / 0x100 % 256) ++ pair_of (n % 256)) in
    two_more 6 n ∙ (ap last (two_more 4 (n / 256)) ∙ (ap third (two_more 2 (n / 256 / 256)) ∙ (ap second (two_more 0 (n / 256 / 256 / 256))
    ∙ (ap (λ (k : ℕ). pair_of (k % 256) ++ behind (n / 256 / 256)) three ∙ ap (λ (k : ℕ). pair_of (n / 0x1000000 % 256) ++ behind k) two))))

upper_is : (n : ℕ) → cut_off half_digits n ≡ n / 16 ^ half_digits
upper_is n = omega arith

-- all digits are those of both halves
pub whole_is : (n : ℕ) → hex_digits whole_digits n ≡ hex_digits half_digits (n / 16 ^ half_digits) ++ hex_digits half_digits n
whole_is n = digits_split half_digits half_digits n ∙ ap (λ (k : ℕ). hex_digits half_digits k ++ hex_digits half_digits n) (upper_is n)

-- the digits behind the first half
pub lower_is : (n : ℕ) → drop half_digits (hex_digits whole_digits n) ≡ hex_digits half_digits n
lower_is n =
    let front = hex_digits half_digits (n / 16 ^ half_digits) in
    ap (drop half_digits) (whole_is n) ∙ (ap (λ (k : ℕ). drop k (front ++ hex_digits half_digits n)) (sym (length_digits half_digits (n / 16 ^ half_digits))) ∙ drop-append_seam front (hex_digits half_digits n))

-- the digits that are printed are the last ones
pub printed_is : (flag : FlagAnd) → drop (whole_digits - printed_digits flag) (hex_digits whole_digits flag.bits) ≡ hex_digits (printed_digits flag) flag.bits
printed_is flag = elim (cases_lt flag.bits (16 ^ half_digits)) [
  | inl small ↦ rw (few_printed flag small) (lower_is flag.bits)
  | inr great ↦ rw (all_printed flag great) refl
]
