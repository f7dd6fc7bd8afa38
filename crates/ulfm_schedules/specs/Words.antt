-- The words of a text, and where words stand together in it.
use Rattle.std.specs.Prelude.{ℕ, Bool, true, false, ◌&&◌, ◌||◌, ◌==◌, if◌then◌else◌, List, [], ◌∷◌, ◌++◌, Option, Some, None, codes}
use Rattle.std.specs.Str.{bytes_eq}

-- a word with this beginning, up to the next space, and the words behind it
abbrev pub words_from : List ℕ → List ℕ → List (List ℕ)
words_from front [] = front ∷ []
words_from front (x ∷ xs) = if x == 32 then front ∷ words_from [] xs else words_from (front ++ x ∷ []) xs

-- the words of a text, between two of which a space stands
abbrev pub words_of : List ℕ → List (List ℕ)
words_of text = words_from [] text

-- the words of a text that there may be
abbrev pub words_in : Option (List ℕ) → List (List ℕ)
words_in None = []
words_in (Some text) = words_of text

-- a word is the wanted one, where `_` wants any
abbrev pub is_wanted : List ℕ → List ℕ → Bool
is_wanted word wanted = bytes_eq wanted (codes "_") || bytes_eq wanted word

-- words begin with the wanted ones
abbrev pub begin_with : List (List ℕ) → List (List ℕ) → Bool
begin_with words [] = true
begin_with [] (wanted ∷ more) = false
begin_with (word ∷ words) (wanted ∷ more) = is_wanted word wanted && begin_with words more

-- the wanted words stand together somewhere among words
abbrev pub have : List (List ℕ) → List (List ℕ) → Bool
have [] wanted = false
have (word ∷ words) wanted = begin_with (word ∷ words) wanted || have words wanted

-- the wanted words stand together somewhere in a text
abbrev pub has_words : List ℕ → List ℕ → Bool
has_words text wanted = have (words_of text) (words_of wanted)
