-- Numbers that are read in one pass are the fields that they are.
use Rattle.std.proofs.Common.{◌≡◌, ◌≢◌, ℕ, ◌<◌, ◌≤◌, List, [], ◌∷◌, length, get_or, Option, Some, Result, Ok, Err, Bool, true, false, refl, ap, arith, length-append}
use Rattle.std.specs.Prelude.{nat_lt, codes, if◌then◌else◌}
use Rattle.std.specs.Str.{bytes_eq}
use Rattle.std.proofs.{lemmas.{Bool.{ne_eqb, le-ltb, lt-ltb}, Slice.Eq.{bytes_eq-Decides}}}
use Rattle.ulfm_model.specs.declared.{event.Caller.TheVariants.{Rank}}
use Rattle.ulfm_script.specs.declared.line_kind.LineKind.{LineKind}
use Rattle.ulfm_script.specs.declared.line_kind.LineKind.TheVariants.{Number, Words}
use Rattle.ulfm_script.specs.{Digits.{number_in, number_to}, Steps.{◌>>=◌}, Words.{first_word, leading_number, next_word}}
use Rattle.ulfm_script.proofs.{Ahead.{count_fits, leads}, Leading.{word_begins}, WordLemmas.{done, same_done, step_found}}
use Rattle.ulfm_lines.specs.Fields.{Field, caller_field, field_by, read_caller}
use Rattle.ulfm_lines.proofs.FieldLemmas.{same_field}

-- a number at the head of a text is a field
pub field_leads : (most : ℕ) (text : List ℕ) (n : ℕ) (rest : Option (List ℕ)) → leading_number most text ≡ Ok (n, rest) → field_by (number_in most) (Some text) ≡ Ok (n, rest)
field_leads most text n rest e = let h = leads most text n rest e in rw (h.next, h.number) refl

-- .. of few digits
pub small_leads : (most : ℕ) (text : List ℕ) (n : ℕ) (rest : Option (List ℕ)) → leading_number most text ≡ Ok (n, rest) → most ≡ 4 → n < 10000
small_leads most text n rest e four = count_fits text n rest (rw four at e)

-- a first word that isn't empty
some_first : (text : List ℕ) → length text ≢ 0 → get_or text 0 0 ≢ 32 → length (first_word text).0 ≢ 0
some_first [] some other = absurd (some refl)
some_first (x ∷ xs) some other = rw (ne_eqb x 32 other) (λ none. let w = word_begins (x ∷ []) xs in
    let long = ap (λ (t : List ℕ). length t) w.1 in omega (arith, none, long, length-append (x ∷ []) w.0))

-- no number is at the head of a text whose first word isn't empty
pub field_fault : (most : ℕ) (text : List ℕ) (kind : LineKind) → leading_number most text ≡ Err kind → length text ≢ 0 → get_or text 0 0 ≢ 32 → field_by (number_in most) (Some text) ≡ Err kind
unfolding leading_number next_word
field_fault most text kind e some other = rw (ne_eqb (length (first_word text).0) 0 (some_first text some other)) e

-- the first word is empty
pub field_none : (most : ℕ) (text : List ℕ) → length text ≡ 0 → field_by (number_in most) (Some text) ≡ Err Words
unfolding next_word
field_none most [] none = refl
field_none most (x ∷ xs) none = absurd (omega (arith, none))

pub field_space : (most : ℕ) (text : List ℕ) → 0 < length text → get_or text 0 0 ≡ 32 → field_by (number_in most) (Some text) ≡ Err Words
unfolding next_word
field_space most [] some is = absurd (omega (arith, some))
field_space most (x ∷ xs) some is = rw is refl

-- up to a greatest number
pub within_field : (most n : ℕ) (text rest : Option (List ℕ)) → field_by (number_in 4) text ≡ Ok (n, rest) → n ≤ most → field_by (number_to most) text ≡ Ok (n, rest)
unfolding number_to
within_field most n text rest e few =
    let w = step_found (next_word text) (λ w. number_in 4 w.0 >>= λ x. done (x, w.1)) (n, rest) e in
    let m = step_found (number_in 4 w.0.0) (λ x. done (x, w.0.1)) (n, rest) w.2 in
    let same = same_field m.0 n w.0.1 rest m.2 in
    rw (w.1, m.1, same.0, le-ltb most n few) (ap (λ (r : Option (List ℕ)). done (n, r)) same.1)

pub past_field : (most n : ℕ) (text rest : Option (List ℕ)) → field_by (number_in 4) text ≡ Ok (n, rest) → most < n → field_by (number_to most) text ≡ Err Number
unfolding number_to
past_field most n text rest e great =
    let w = step_found (next_word text) (λ w. number_in 4 w.0 >>= λ x. done (x, w.1)) (n, rest) e in
    let m = step_found (number_in 4 w.0.0) (λ x. done (x, w.0.1)) (n, rest) w.2 in
    let same = same_field m.0 n w.0.1 rest m.2 in
    rw (w.1, m.1, same.0, lt-ltb most n great) refl

abbrev number_then : ℕ → Option (List ℕ) → Field ℕ
number_then n rest = Ok (n, rest)

fault_on : (most : ℕ) (m : Result ℕ LineKind) (rest : Option (List ℕ)) (kind : LineKind) → (m >>= λ x. number_then x rest) ≡ Err kind
    → ((m >>= λ n. if nat_lt most n then Err Number else Ok n) >>= λ x. number_then x rest) ≡ Err kind
fault_on most (Ok n) rest kind e = absurd cc
fault_on most (Err other) rest kind e = e

fault_behind : (most : ℕ) (r : Result (List ℕ × Option (List ℕ)) LineKind) (kind : LineKind) → (r >>= λ w. number_in 4 w.0 >>= λ x. number_then x w.1) ≡ Err kind
    → (r >>= λ w. number_to most w.0 >>= λ x. number_then x w.1) ≡ Err kind
unfolding number_to
fault_behind most (Ok w) kind e = fault_on most (number_in 4 w.0) w.1 kind e
fault_behind most (Err other) kind e = e

pub fault_field : (most : ℕ) (text : Option (List ℕ)) (kind : LineKind) → field_by (number_in 4) text ≡ Err kind → field_by (number_to most) text ≡ Err kind
fault_field most text kind e = fault_behind most (next_word text) kind e

no_dash : (w : List ℕ) (rank : ℕ) (b : Bool) → bytes_eq w (codes "-") ≡ b → number_to 1023 w ≡ Ok rank → b ≡ false
unfolding number_to number_in
no_dash w rank false test e = refl
no_dash w rank true test e =
    let is : w ≡ codes "-" = (bytes_eq-Decides w (codes "-")).0 test in
    absurd (let k : Err Number ≡ Ok rank = rw is at e in cc)

-- a rank is a caller
pub rank_calls : (text : Option (List ℕ)) (rank : ℕ) (rest : Option (List ℕ)) → field_by (number_to 1023) text ≡ Ok (rank, rest) → caller_field text ≡ Ok (Rank rank, rest)
unfolding caller_field read_caller
rank_calls text rank rest e =
    let w = step_found (next_word text) (λ w. number_to 1023 w.0 >>= λ x. done (x, w.1)) (rank, rest) e in
    let m = step_found (number_to 1023 w.0.0) (λ x. done (x, w.0.1)) (rank, rest) w.2 in
    rw (w.1, no_dash w.0.0 m.0 (bytes_eq w.0.0 (codes "-")) refl m.1, m.1)
    (ap (λ (x : ℕ × Option (List ℕ)). done (Rank x.0, x.1)) (same_done (m.0, w.0.1) (rank, rest) m.2))
