-- The words of a line: between two of them stands one space.
use denote.Ref.{Bor}
use Rattle.std.specs.Prelude.{◌≡◌, ℕ, List, [], ◌∷◌, ◌++◌, length, Option, Some, None, option_map, Result, Ok, Err, ◌==◌, if◌then◌else◌}
use Rattle.std.specs.Str.{bytes_eq}
use Rattle.ulfm_script.specs.declared.line_kind.LineKind.{LineKind}
use Rattle.ulfm_script.specs.declared.line_kind.LineKind.TheVariants.{Words}
use Rattle.ulfm_script.specs.{Digits.{number_in}, Steps.{◌>>=◌}}

-- a word with this beginning, up to the next space or the end, and the text behind that space, if there is one
abbrev pub word_from : List ℕ → List ℕ → List ℕ × Option (List ℕ)
word_from front [] = (front, None)
word_from front (x ∷ xs) = if x == 32 then (front, Some xs) else word_from (front ++ x ∷ []) xs

-- the first word of a text, and the text behind it
abbrev pub first_word : List ℕ → List ℕ × Option (List ℕ)
first_word text = word_from [] text

-- what the first word of a text has read behind it, where it is one of these verbs, or else this
abbrev pub by_verb : {A : Type 0} → List (List ℕ × (Option (List ℕ) → A)) → A → List ℕ × Option (List ℕ) → A
by_verb [] other first = other
by_verb (verb ∷ verbs) other first = if bytes_eq first.0 verb.0 then verb.1 first.1 else by_verb verbs other first

-- one more word, which must not be empty, and the text behind it
unfoldable pub next_word : Option (List ℕ) → Result (List ℕ × Option (List ℕ)) LineKind
next_word None = Err Words
next_word (Some text) = if length (first_word text).0 == 0 then Err Words else Ok (first_word text)

-- a number of at most so many digits as the first word, and the text behind it
unfoldable pub leading_number : ℕ → List ℕ → Result (ℕ × Option (List ℕ)) LineKind
leading_number most text = number_in most (first_word text).0 >>= λ n. Ok (n, (first_word text).1)

-- a value, where no further word stands behind it
abbrev pub if_last : {A : Type 0} → Option (List ℕ) → A → Result A LineKind
if_last None x = Ok x
if_last (Some text) x = Err Words

-- exactly one word
unfoldable pub one_of : Option (List ℕ) → Result (List ℕ) LineKind
one_of text = next_word text >>= λ a. if_last a.1 a.0

-- exactly two words
unfoldable pub two_of : Option (List ℕ) → Result (List ℕ × List ℕ) LineKind
two_of text = do
  a ← next_word text
  b ← one_of a.1
  Ok (a.0, b)

-- exactly three words
unfoldable pub three_of : Option (List ℕ) → Result (List ℕ × List ℕ × List ℕ) LineKind
three_of text = do
  a ← next_word text
  b ← two_of a.1
  Ok (a.0, b.0, b.1)

-- exactly four words
unfoldable pub four_of : Option (List ℕ) → Result (List ℕ × List ℕ × List ℕ × List ℕ) LineKind
four_of text = do
  a ← next_word text
  b ← three_of a.1
  Ok (a.0, b.0, b.1, b.2)

-- a function returned, as see shows it, what reading gives
abbrev pub Gives : {X Y : Type 0} → (X → Y) → Result X LineKind → Result Y LineKind → Type 0
Gives see (Ok x) read = read ≡ Ok (see x)
Gives see (Err kind) read = read ≡ Err kind

-- what slices of words point to
abbrev pub rest_at : Option (Bor (List ℕ)) → Option (List ℕ)
rest_at text = option_map (λ rest. rest.now) text

abbrev pub word_seen : Bor (List ℕ) × Option (Bor (List ℕ)) → List ℕ × Option (List ℕ)
word_seen x = (x.0.now, rest_at x.1)

abbrev pub number_seen : ℕ × Option (Bor (List ℕ)) → ℕ × Option (List ℕ)
number_seen x = (x.0, rest_at x.1)

abbrev pub two_at : Bor (List ℕ) × Bor (List ℕ) → List ℕ × List ℕ
two_at x = (x.0.now, x.1.now)

abbrev pub three_at : Bor (List ℕ) × Bor (List ℕ) × Bor (List ℕ) → List ℕ × List ℕ × List ℕ
three_at x = (x.0.now, x.1.now, x.2.now)

abbrev pub four_at : Bor (List ℕ) × Bor (List ℕ) × Bor (List ℕ) × Bor (List ℕ) → List ℕ × List ℕ × List ℕ × List ℕ
four_at x = (x.0.now, x.1.now, x.2.now, x.3.now)
