-- Words by words, as a text is split at its first space.
use Rattle.std.proofs.Common.{◌≡◌, ℕ, ◌+◌, ◌<◌, ◌==◌, if◌then◌else◌, true, false, List, [], ◌∷◌, ◌++◌, length, Option, Some, None, refl, arith}
use Rattle.ulfm_script.specs.Words.{first_word, word_from}
use Rattle.ulfm_schedules.specs.Words.{words_from, words_in, words_of}

parts_from : (front text : List ℕ) → words_from front text ≡ (word_from front text).0 ∷ words_in (word_from front text).1
parts_from front [] = refl
parts_from front (x ∷ xs) =
    elim (x == 32) as
    (λ b. (if b then front ∷ words_of xs else words_from (front ++ x ∷ []) xs)
    ≡ (if b then (front, Some xs) else word_from (front ++ x ∷ []) xs).0 ∷ words_in (if b then (front, Some xs) else word_from (front ++ x ∷ []) xs).1)
    [ true ↦ refl | false ↦ parts_from (front ++ x ∷ []) xs ]

-- the words of a text are its first one and those behind it
pub first_and_rest : (text : List ℕ) → words_of text ≡ (first_word text).0 ∷ words_in (first_word text).1
first_and_rest text = parts_from [] text

-- how long a text is that there may be
abbrev pub size_in : Option (List ℕ) → ℕ
size_in None = 0
size_in (Some text) = length text + 1

shorter_from : (front text : List ℕ) → size_in (word_from front text).1 < length text + 1
shorter_from front [] = omega arith
shorter_from front (x ∷ xs) =
    elim (x == 32) as (λ b. size_in (if b then (front, Some xs) else word_from (front ++ x ∷ []) xs).1 < length (x ∷ xs) + 1)
    [ true ↦ omega arith | false ↦ omega (arith, shorter_from (front ++ x ∷ []) xs) ]

-- what stands behind the first word is shorter
pub shorter : (text : List ℕ) → size_in (first_word text).1 < length text + 1
shorter text = shorter_from [] text
