-- The lines of a text, one after another.
use Rattle.std.proofs.Common.{◌≡◌, ℕ, List, [], ◌∷◌, ◌++◌, sym, ap, ◌∙◌, append_assoc}
use Rattle.std.proofs.lemmas.{List.{append-nil}}
use Rattle.ulfm_script.specs.{Buffers.{HasNoNewline}, Scripts.{lines_from, rest_from}}
use Rattle.ulfm_script.proofs.ScriptLemmas.{lines_step, rest_step, lines_none, rest_all, regroup}

-- whatever stands behind this text, it has these lines, and then those of what stands behind it
pub record Comes (done : List ℕ) (lines : List (List ℕ)) : Type 0 where
  pub lines_are : (rest : List ℕ) → lines_from [] (done ++ rest) ≡ lines ++ lines_from [] rest
  pub rest_is : (rest : List ℕ) → rest_from [] (done ++ rest) ≡ rest_from [] rest

-- one line
pub comes_first : (line : List ℕ) → HasNoNewline line → Comes (line ++ 10 ∷ []) (line ∷ [])
comes_first line free = record {
  lines_are = λ rest. ap (lines_from []) (append_assoc line (10 ∷ []) rest) ∙ lines_step [] line rest free;
  rest_is = λ rest. ap (rest_from []) (append_assoc line (10 ∷ []) rest) ∙ rest_step [] line rest free;
}

-- a line more
pub comes_on : (done line : List ℕ) (lines : List (List ℕ)) → Comes done lines → HasNoNewline line → Comes (done ++ (line ++ 10 ∷ [])) (lines ++ line ∷ [])
comes_on done line lines c free = record {
  lines_are = λ rest.
      ap (lines_from []) (regroup done line rest) ∙ c.lines_are (line ++ 10 ∷ rest)
      ∙ ap (λ (t : List (List ℕ)). lines ++ t) (lines_step [] line rest free) ∙ sym (append_assoc lines (line ∷ []) (lines_from [] rest));
  rest_is = λ rest. ap (rest_from []) (regroup done line rest) ∙ c.rest_is (line ++ 10 ∷ rest) ∙ rest_step [] line rest free;
}

-- nothing behind these lines
pub lines_end : (done : List ℕ) (lines : List (List ℕ)) → Comes done lines → lines_from [] done ≡ lines
lines_end done lines c = ap (lines_from []) (sym (append-nil done)) ∙ c.lines_are [] ∙ append-nil lines

pub rest_end : (done : List ℕ) (lines : List (List ℕ)) → Comes done lines → rest_from [] done ≡ []
rest_end done lines c = ap (rest_from []) (sym (append-nil done)) ∙ c.rest_is []

-- a part of a line behind these lines
pub lines_cut : (done line : List ℕ) (lines : List (List ℕ)) → Comes done lines → HasNoNewline line → lines_from [] (done ++ line) ≡ lines ++ []
lines_cut done line lines c free = c.lines_are line ∙ ap (λ (t : List (List ℕ)). lines ++ t) (lines_none [] line free)

pub rest_cut : (done line : List ℕ) (lines : List (List ℕ)) → Comes done lines → HasNoNewline line → rest_from [] (done ++ line) ≡ line
rest_cut done line lines c free = c.rest_is line ∙ rest_all [] line free

-- a line behind these lines, and whatever stands behind it
pub lines_then : (done line rest : List ℕ) (lines : List (List ℕ)) → Comes done lines → HasNoNewline line
    → lines_from [] ((done ++ (line ++ 10 ∷ [])) ++ rest) ≡ lines ++ line ∷ lines_from [] rest
lines_then done line rest lines c free =
    ap (lines_from []) (regroup done line rest) ∙ c.lines_are (line ++ 10 ∷ rest) ∙ ap (λ (t : List (List ℕ)). lines ++ t) (lines_step [] line rest free)

-- a text of one line and more
pub first_then : (line rest : List ℕ) → HasNoNewline line → lines_from [] ((line ++ 10 ∷ []) ++ rest) ≡ line ∷ lines_from [] rest
first_then line rest free = ap (lines_from []) (append_assoc line (10 ∷ []) rest) ∙ lines_step [] line rest free

-- a text without a newline
pub no_line : (line : List ℕ) → HasNoNewline line → lines_from [] line ≡ []
no_line line free = lines_none [] line free
