-- The lines of an explanation behind its verdict: those that are offered, and notes.
use Rattle.std.specs.Prelude.{◌≡◌, ℕ, nat_le, ◌&&◌, if◌then◌else◌, List, [], ◌∷◌, ◌++◌, codes, map}
use Rattle.std.specs.List.{AllByRecursion}
use Rattle.ulfm_trace.specs.Texts.{IsLegalText}

-- a byte of a note: a question mark in place of what isn't a printed character of ASCII or a space
abbrev pub shown_byte : ℕ → ℕ
shown_byte x = if nat_le 32 x && nat_le x 126 then x else 63

-- notes, each behind two spaces
abbrev pub notes_text : List (List ℕ) → List ℕ
notes_text [] = []
notes_text (note ∷ notes) = codes "  " ++ (map shown_byte note ++ 10 ∷ notes_text notes)

-- lines that are offered, each behind its label
abbrev pub offered_text : List (List ℕ) → List ℕ
offered_text [] = []
offered_text (line ∷ lines) = codes "legal: " ++ (line ++ 10 ∷ offered_text lines)

-- behind these lines of a trace a line makes a legal trace
abbrev pub IsLegalBehind : List ℕ → List ℕ → Type 0
IsLegalBehind before line = IsLegalText (before ++ (line ++ 10 ∷ []))

-- what was told goes on with lines that are offered, each of which is legal behind these
abbrev pub Offers : List ℕ → List ℕ → List ℕ → Type 0
Offers before old new = (lines : List (List ℕ)) × AllByRecursion (IsLegalBehind before) lines × (new ≡ old ++ offered_text lines)

-- what was told goes on with notes
abbrev pub Notes : List ℕ → List ℕ → Type 0
Notes old new = (notes : List (List ℕ)) × (new ≡ old ++ notes_text notes)

-- what was told goes on with lines that are offered, each of which is legal behind these, and then with notes
pub record TellsBad (before old new : List ℕ) : Type 0 where
  pub offered : List ℕ
  pub offers : Offers before old offered
  pub notes : Notes offered new
