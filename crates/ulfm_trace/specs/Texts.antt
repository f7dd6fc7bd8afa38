-- The texts of traces: which are legal, and the first line of another one that is bad.
use Rattle.std.specs.Prelude.{◌≡◌, ◌≢◌, ◌⊎◌, ℕ, zero, suc, ◌+◌, ◌≤◌, ◌==◌, ⊤, List, [], ◌∷◌, ◌++◌, length, if◌then◌else◌}
use Rattle.ulfm_laws.specs.{Flags.{flag_meld}, declared.flag_and.FlagAnd.{FlagAnd}}
use Rattle.ulfm_model.specs.{Words.{MayOpen}, declared.limits.Limits.{Limits}}
use Rattle.ulfm_script.specs.declared.header_kind.HeaderKind.TheVariants.{Trace}
use Rattle.ulfm_script.specs.{Headers.{header_text}, Scripts.{lines_from, rest_from}}
use Rattle.ulfm_lines.specs.{Stepped.{TraceState}, Telling.{TextTells}}
use Rattle.ulfm_model.specs.declared.line.{Why.{Why}, Why.TheVariants.{Text}}
use Rattle.ulfm_model.specs.Traces.{IsBad, IsLegalTrace, Told, nothing, said_by}

-- the lines of a trace, typed
abbrev pub TraceLines : Type 0
TraceLines = List (Told FlagAnd)

-- a line of a trace, without its newline, tells this
abbrev pub TellsTold : List ℕ → Told FlagAnd → Type 0
TellsTold text told = TextTells text told.group told.line

-- each line of text tells the line of the trace in its place
abbrev pub AreTold : List (List ℕ) → TraceLines → Type 0
AreTold [] [] = ⊤
AreTold [] (told ∷ trace) = ⊥
AreTold (text ∷ texts) [] = ⊥
AreTold (text ∷ texts) (told ∷ trace) = TellsTold text told × AreTold texts trace

-- the line is the header of a world with these limits, which may be opened
pub record IsHeader (text : List ℕ) (limits : Limits) : Type 0 where
  pub may_open : MayOpen limits
  pub short : length text ≤ 8192
  pub text_is : text ≡ header_text Trace limits

-- these lines, at most 5,000,000, are a header and the lines of a legal trace behind it
pub record Tell (lines : List (List ℕ)) (limits : Limits) (trace : TraceLines) : Type 0 where
  pub header : List ℕ
  pub texts : List (List ℕ)
  pub lines_are : lines ≡ header ∷ texts
  pub few : length lines ≤ 5000000
  pub is_header : IsHeader header limits
  pub told : AreTold texts trace
  pub legal : IsLegalTrace flag_meld limits trace

-- the text is a legal trace: nothing stands behind its last newline, and its lines are a header and a legal trace
abbrev pub IsLegalText : List ℕ → Type 0
IsLegalText text = (limits : Limits) × (trace : TraceLines) × Tell (lines_from [] text) limits trace × (rest_from [] text ≡ [])

-- a line of this number is of the grammar, and tells this
abbrev pub IsLine : ℕ → List ℕ → Told FlagAnd → Type 0
IsLine number text told = (number ≤ 5000000) × TellsTold text told

-- the line of this number may not come after what was said, and this is the reason: it is not of the grammar, or what it tells is bad
abbrev pub IsBadLine : TraceState → ℕ → List ℕ → Why → Type 0
IsBadLine now number text why =
    ((why ≡ Text) × ¬ ((told : Told FlagAnd) × IsLine number text told))
    ⊎ ((told : Told FlagAnd) × IsLine number text told × IsBad flag_meld now told.group told.line why)

-- what comes next is bad: a further line of this number, or the text ends inside it
abbrev pub IsBadNext : TraceState → ℕ → List (List ℕ) → List ℕ → Why → Type 0
IsBadNext now number [] cut why = (why ≡ Text) × (cut ≢ [])
IsBadNext now number (text ∷ behind) cut why = IsBadLine now number text why

-- the lines before the one of this number are a header and a legal trace, and this line is bad; where the text ends inside a line, so much of it
pub record BreaksOff (lines : List (List ℕ)) (cut : List ℕ) (number : ℕ) (why : Why) : Type 0 where
  pub before : List (List ℕ)
  pub behind : List (List ℕ)
  pub lines_are : lines ≡ before ++ behind
  pub limits : Limits
  pub trace : TraceLines
  pub tell : Tell before limits trace
  pub number_is : number ≡ length before + 1
  pub bad : IsBadNext (said_by (nothing limits) trace) number behind cut why

-- the first line is no header, or there is none
abbrev pub LacksHeader : List (List ℕ) → Type 0
LacksHeader [] = ⊤
LacksHeader (text ∷ behind) = ¬ ((limits : Limits) × IsHeader text limits)

-- the line of this number is the text's first that is bad, for this reason
abbrev pub IsFirstBad : List ℕ → ℕ → Why → Type 0
IsFirstBad text number why =
    ((number ≡ 1) × (why ≡ Text) × LacksHeader (lines_from [] text)) ⊎ BreaksOff (lines_from [] text) (rest_from [] text) number why

-- the first so many lines of a text, with their newlines; where the text has fewer, all of it
abbrev pub first_lines : ℕ → List ℕ → List ℕ
first_lines zero xs = []
first_lines (suc n) [] = []
first_lines (suc n) (x ∷ xs) = x ∷ (if x == 10 then first_lines n xs else first_lines (suc n) xs)
