-- The calls that lines of a trace begin.
use Rattle.std.specs.Prelude.{ℕ, ◌+◌, ⊤, List, [], ◌∷◌}
use Rattle.std.specs.List.{AllByRecursion}
use Rattle.ulfm_laws.specs.declared.flag_and.FlagAnd.{FlagAnd}
use Rattle.ulfm_script.specs.Spelling.{IsSpelledAs}
use Rattle.ulfm_model.specs.declared.line.Line.TheVariants.{Called}
use Rattle.ulfm_model.specs.Traces.{Told}
use Rattle.ulfm_lines.specs.LineTexts.{TraceLine}

-- how many calls a line begins
abbrev pub calls_of : TraceLine → ℕ
calls_of (Called asked padded) = 1
calls_of line = 0

-- how many calls lines begin
abbrev pub calls_in : List (Told FlagAnd) → ℕ
calls_in [] = 0
calls_in (told ∷ rest) = calls_of told.line + calls_in rest

-- a call that begins is one that some line of a script of the first version spells
abbrev pub CalledFits : TraceLine → Type 0
CalledFits (Called asked padded) = IsSpelledAs padded asked
CalledFits line = ⊤

-- so is each that begins in these lines
abbrev pub AllFit : List (Told FlagAnd) → Type 0
AllFit trace = AllByRecursion (λ told. CalledFits told.line) trace
