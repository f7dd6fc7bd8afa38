-- A text form without its columns: of each line what stands behind its first tab, and nothing of a line that has none.
use Rattle.std.specs.Prelude.{◌≡◌, ℕ, zero, suc, ◌-◌, length, ◌==◌, ◌||◌, Bool, true, false, if◌then◌else◌, List, [], ◌∷◌, ◌++◌}
use Rattle.ulfm_trace.specs.declared.verdict.{Verdict.{Verdict}, Verdict.TheVariants.{Legal, Illegal}}

-- the same, in the columns of a line or behind its tab
abbrev pub kept_of : Bool → List ℕ → List ℕ
kept_of behind [] = []
kept_of true (x ∷ xs) = x ∷ kept_of (if x == 10 then false else true) xs
kept_of false (x ∷ xs) = kept_of (if x == 9 then true else false) xs

abbrev pub without_columns : List ℕ → List ℕ
without_columns text = kept_of false text

-- whole lines of a text form, which give these lines, whatever stands behind them
abbrev pub Gives : List ℕ → List ℕ → Type 0
Gives sheet given = (rest : List ℕ) → without_columns (sheet ++ rest) ≡ given ++ without_columns rest

-- a byte of a column: a question mark in place of a tab and of a newline
abbrev pub column_of : ℕ → ℕ
column_of x = if (x == 9) || (x == 10) then 63 else x

-- the first so many lines of a text with their newlines, where the first has this beginning; fewer where the text has not so many
abbrev pub lines_taken : List ℕ → ℕ → List ℕ → List ℕ
lines_taken front zero text = []
lines_taken front (suc n) [] = []
lines_taken front (suc n) (x ∷ xs) =
    if x == 10 then (front ++ 10 ∷ []) ++ lines_taken [] n xs else lines_taken (front ++ x ∷ []) (suc n) xs

-- the lines of a text that are drawn as its own, by its verdict: all, or those before the bad one
abbrev pub own_lines : Verdict → List ℕ → List ℕ
own_lines Legal text = lines_taken [] (length text) text
own_lines (Illegal line why) text = lines_taken [] (line - 1) text
