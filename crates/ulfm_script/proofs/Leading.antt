-- A number at the head of a text, read byte by byte.
use Rattle.std.proofs.Common.{◌≡◌, ◌≢◌, ℕ, suc, ◌+◌, ◌-◌, ◌<◌, ◌≤◌, List, [], ◌∷◌, ◌++◌, length, take, drop, get_or, Option, Some, None, Result, Ok, Err, Bool, true, false, not, cond, ◌&&◌, ◌||◌, ◌==◌, refl, sym, ap, ◌∙◌, append_assoc, arith, rules, add-one, length-append}
use Rattle.std.proofs.lemmas.{Bool.{ne_eqb}, Bool.Decides.{nat_tests}, List.{append-nil, take_all, drop_all, length-take, length-drop}}
use Rattle.std.proofs.lemmas.{Bool.Decides.{Decides-eqb}, Slice.Eq.{bytes_eq-Decides, starts_is}}
use Rattle.std.proofs.Math.Seq.{drop-cons, take-suc}
use Rattle.std.specs.{Bool.{Decides}, Cmp.Lexicographic.{pointwise}, Prelude.{nat_eq, slice_range}, Str.{bytes_eq}}
use Rattle.ulfm_script.specs.declared.line_kind.LineKind.{LineKind}
use Rattle.ulfm_script.specs.declared.line_kind.LineKind.TheVariants.{Number}
use Rattle.ulfm_script.specs.{Digits.{are_plain, digits_after, digit_of, number_in}, Steps.{◌>>=◌}, Words.{word_from, first_word, leading_number}}
use Rattle.ulfm_script.proofs.Numerals.{is_bad}

-- digits behind others of this value
abbrev pub after : ℕ → List ℕ → Result ℕ LineKind
after value ds = digits_after Number 10 digit_of value ds

-- the bytes before this one are of the first word
abbrev pub IsInWord : ℕ → List ℕ → Type 0
IsInWord i text = word_from (take i text) (drop i text) ≡ first_word text

-- .. and digits of this value
abbrev pub HasValue : ℕ → List ℕ → ℕ → Type 0
HasValue i text value = (ys : List ℕ) → after 0 (take i text ++ ys) ≡ after value ys

-- the word goes on as it began
pub word_begins : (front xs : List ℕ) → (more : List ℕ) × ((word_from front xs).0 ≡ front ++ more)
word_begins front [] = ([], sym (append-nil front))
word_begins front (x ∷ xs) = elim (x == 32) as (λ (b : Bool). (more : List ℕ) × ((cond b (front, Some xs) (word_from (front ++ x ∷ []) xs)).0 ≡ front ++ more)) [
  | true ↦ ([], sym (append-nil front))
  | false ↦ (let rest = word_begins (front ++ x ∷ []) xs in (x ∷ rest.0, rest.1 ∙ append_assoc front (x ∷ []) rest.0))
]

either_way : {A : Type 0} (b : Bool) (x y : A) → x ≡ y → cond b y x ≡ y
either_way true x y e = refl
either_way false x y e = e

-- a fault of the digits is a fault of the number
bad_digits : (most : ℕ) (w : List ℕ) → after 0 w ≡ Err Number → number_in most w ≡ Err Number
unfolding number_in
bad_digits most w e = either_way (is_bad most (length w) (get_or w 0 0)) (after 0 w) (Err Number) e

bad_if_long : (most n first : ℕ) → most < n → is_bad most n first ≡ true
bad_if_long most n first long = grind (arith, nat_tests, long)

-- so is that there are too many
too_long : (most : ℕ) (w : List ℕ) → most < length w → number_in most w ≡ Err Number
unfolding number_in
too_long most w long = rw (bad_if_long most (length w) (get_or w 0 0) long) refl

-- the test of a number's digits, where there aren't too many
abbrev is_plain : ℕ → ℕ → Bool
is_plain n first = not (n == 0) && ((n == 1) || not (first == 48))

plain_good : (most n first : ℕ) → n ≤ most → is_plain n first ≡ true → is_bad most n first ≡ false
plain_good most n first few e = grind (arith, nat_tests, few, e)

plain_bad : (most n first : ℕ) → is_plain n first ≡ false → is_bad most n first ≡ true
plain_bad most n first e = grind (arith, nat_tests, e)

number_is : (most : ℕ) (w : List ℕ) (n : ℕ) → length w ≤ most → are_plain w ≡ true → after 0 w ≡ Ok n → number_in most w ≡ Ok n
unfolding number_in
number_is most w n few plain e = rw (plain_good most (length w) (get_or w 0 0) few plain) e

number_not : (most : ℕ) (w : List ℕ) → are_plain w ≡ false → number_in most w ≡ Err Number
unfolding number_in
number_not most w plain = rw (plain_bad most (length w) (get_or w 0 0) plain) refl

-- the bytes of the value alone
value_alone : (i : ℕ) (text : List ℕ) (value : ℕ) → HasValue i text value → after 0 (take i text) ≡ Ok value
value_alone i text value h = rw append-nil at (h [])

-- the first word ends before a space
word_ends : (i : ℕ) (text : List ℕ) → i < length text → get_or text i 0 ≡ 32 → IsInWord i text → first_word text ≡ (take i text, Some (slice_range text (i + 1) (length text)))
word_ends i text less is h =
    let whole : slice_range text (i + 1) (length text) ≡ drop (i + 1) text = take_all (length text - (i + 1)) (drop (i + 1) text) (omega (arith, length-drop (i + 1) text)) in
    sym h ∙ rw (whole, drop-cons text i 0 less, is, add-one i) refl

-- .. or with the text
word_last : (i : ℕ) (text : List ℕ) → length text ≤ i → IsInWord i text → first_word text ≡ (text, None)
word_last i text all h = sym h ∙ rw (take_all i text all, drop_all i text all) refl

-- a byte more that is no space
word_more : (i : ℕ) (text : List ℕ) → i < length text → get_or text i 0 ≢ 32 → IsInWord i text → IsInWord (suc i) text
word_more i text less other h = rw (take-suc text i 0 less) (rw (drop-cons text i 0 less, ne_eqb (get_or text i 0) 32 other) at h)

leading_is : (most : ℕ) (text word : List ℕ) (rest : Option (List ℕ)) (read : Result ℕ LineKind) → first_word text ≡ (word, rest) → number_in most word ≡ read
    → leading_number most text ≡ (read >>= λ n. Ok (n, rest))
unfolding leading_number
leading_is most text word rest read is number = rw (is, number) refl

-- a number before a space
pub number_before : (most i : ℕ) (text : List ℕ) (value : ℕ) → i < length text → get_or text i 0 ≡ 32 → i ≤ most → are_plain (take i text) ≡ true → IsInWord i text → HasValue i text value
    → leading_number most text ≡ Ok (value, Some (slice_range text (i + 1) (length text)))
number_before most i text value less is few plain h v =
    leading_is most text (take i text) (Some (slice_range text (i + 1) (length text))) (Ok value) (word_ends i text less is h) (number_is most (take i text) value (omega (arith, few, length-take i text)) plain (value_alone i text value v))

-- .. or none
pub none_before : (most i : ℕ) (text : List ℕ) → i < length text → get_or text i 0 ≡ 32 → are_plain (take i text) ≡ false → IsInWord i text → leading_number most text ≡ Err Number
none_before most i text less is plain h =
    leading_is most text (take i text) (Some (slice_range text (i + 1) (length text))) (Err Number) (word_ends i text less is h) (number_not most (take i text) plain)

-- a number that ends with the text
pub number_last : (most i : ℕ) (text : List ℕ) (value : ℕ) → i ≡ length text → i ≤ most → are_plain text ≡ true → IsInWord i text → HasValue i text value
    → leading_number most text ≡ Ok (value, None)
number_last most i text value all few plain h v =
    leading_is most text text None (Ok value) (word_last i text (omega (arith, all)) h)
    (number_is most text value (omega (arith, all, few)) plain (rw (take_all i text (omega (arith, all))) at (value_alone i text value v)))

-- .. or none
pub none_last : (most i : ℕ) (text : List ℕ) → length text ≤ i → are_plain text ≡ false → IsInWord i text → leading_number most text ≡ Err Number
none_last most i text all plain h = leading_is most text text None (Err Number) (word_last i text all h) (number_not most text plain)

-- a word that goes on behind these bytes, and is no number however it goes on
goes_on : (most i : ℕ) (text : List ℕ) → i < length text → get_or text i 0 ≢ 32 → IsInWord i text
    → ((more : List ℕ) → number_in most (take (suc i) text ++ more) ≡ Err Number) → leading_number most text ≡ Err Number
unfolding leading_number
goes_on most i text less other h bad =
    let rest = word_begins (take (suc i) text) (drop (suc i) text) in
    let is : (first_word text).0 ≡ take (suc i) text ++ rest.0 = ap (λ (x : List ℕ × Option (List ℕ)). x.0) (sym (word_more i text less other h)) ∙ rest.1 in
    rw (is, bad rest.0) refl

-- no digit stands there
pub no_digit : (most i : ℕ) (text : List ℕ) (value : ℕ) → i < length text → get_or text i 0 ≢ 32 → digit_of (get_or text i 0) ≡ None → IsInWord i text → HasValue i text value
    → leading_number most text ≡ Err Number
no_digit most i text value less other none h v =
    goes_on most i text less other h (λ more. bad_digits most (take (suc i) text ++ more)
    (rw (take-suc text i 0 less, append_assoc) (v (get_or text i 0 ∷ more) ∙ rw none refl)))

-- a digit too many
pub no_room : (most i : ℕ) (text : List ℕ) → i < length text → get_or text i 0 ≢ 32 → most ≤ i → IsInWord i text → leading_number most text ≡ Err Number
no_room most i text less other full h =
    goes_on most i text less other h (λ more. too_long most (take (suc i) text ++ more)
    (omega (arith, less, full, length-append (take (suc i) text) more, length-take (suc i) text)))

-- a text that begins with one of its own length is that one
pub same_word : (word text : List ℕ) (same : Bool) → length word ≡ length text → same ≡ pointwise nat_eq text (take (length text) word) → same ≡ bytes_eq word text
same_word word text same long test =
    let starts = starts_is Decides-eqb word text same test in
    let decides : Decides same (word ≡ text) = (
      (λ yes. starts.0 yes ∙ rw (drop_all (length text) word (omega (arith, long)), append-nil) refl),
      (λ is. starts.1 [] (is ∙ sym (append-nil text))),
    ) in
    search (rules, bytes_eq-Decides, decides)
