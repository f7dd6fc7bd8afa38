-- What a line of a step script asks for, or the first fault in it from the left; and the lines that spell it.
use Rattle.std.specs.Prelude.{◌≡◌, ◌≢◌, ℕ, ◌<◌, List, [], ◌∷◌, ◌++◌, codes, length, Option, Some, None, Result, Ok, Err, ◌==◌, if◌then◌else◌}
use Rattle.std.specs.{Fmt.{decimal}, Str.{bytes_eq}}
use Rattle.ulfm_laws.specs.declared.flag_and.FlagAnd.{FlagAnd}
use Rattle.ulfm_model.specs.declared.call.Call.TheVariants as call
use Rattle.ulfm_model.specs.declared.step_line.StepLine.{StepLine}
use Rattle.ulfm_model.specs.declared.step_line.StepLine.TheVariants.{Called, Stepped, Before, Finished, Failed}
use Rattle.ulfm_script.specs.declared.line_kind.LineKind.{LineKind}
use Rattle.ulfm_script.specs.declared.line_kind.LineKind.TheVariants.{Number, Verb, Words}
use Rattle.ulfm_script.specs.{Calls.{ScriptCall, call_of, rank_alone}, Digits.{read_number, read_rank}, Spelling.{SpellsAs, is_padded}, Steps.{◌>>=◌}}
use Rattle.ulfm_script.specs.Words.{by_verb, two_of, first_word}
use Rattle.ulfm_lines.specs.StepNames.{read_step_name, step_text}

-- a line of a step script
abbrev pub ScriptStep : Type 0
ScriptStep = StepLine FlagAnd

-- a call behind its line's verb; the outside's declarations are no calls of ranks
abbrev pub read_asked_in : List ℕ → Result ScriptStep LineKind
read_asked_in text =
    if length (first_word text).0 == 0 then Err Words
    else (if bytes_eq (first_word text).0 (codes "fail") then Err Verb else (call_of text >>= λ asked. Ok (Called asked (is_padded text asked))))

-- the same, where there is one
unfoldable pub read_asked : Option (List ℕ) → Result ScriptStep LineKind
read_asked None = Err Words
read_asked (Some text) = read_asked_in text

-- a rank, and how many steps it makes at most
unfoldable pub stepped_of : Option (List ℕ) → Result ScriptStep LineKind
stepped_of fields = do
  words ← two_of fields
  rank ← read_rank words.0
  count ← read_number words.1
  if count == 0 then Err Number else Ok (Stepped rank count)

-- a rank, and the step before which it stops
unfoldable pub before_of : Option (List ℕ) → Result ScriptStep LineKind
before_of fields = do
  words ← two_of fields
  rank ← read_rank words.0
  name ← read_step_name words.1
  Ok (Before rank name)

-- a rank alone
abbrev pub finished_of : Option (List ℕ) → Result ScriptStep LineKind
finished_of fields = rank_alone Finished fields

abbrev pub read_failed : Option (List ℕ) → Result ScriptStep LineKind
read_failed fields = rank_alone Failed fields

-- a verb, and the text behind it
abbrev pub step_from : List ℕ × Option (List ℕ) → Result ScriptStep LineKind
step_from first =
    by_verb ((codes "call", read_asked) ∷ (codes "step", stepped_of) ∷ (codes "before", before_of)
    ∷ (codes "finish", finished_of) ∷ (codes "fail", read_failed) ∷ []) (Err Verb) first

-- what a line asks for
unfoldable pub step_line_of : List ℕ → Result ScriptStep LineKind
step_line_of line = step_from (first_word line)

-- a call of a rank, and not of the outside
abbrev pub IsByRank : ScriptCall → Type 0
IsByRank asked = (rank : ℕ) → asked ≢ call.Fail rank

-- the line spells this; each has at most one spelling
abbrev pub SpellsStep : List ℕ → ScriptStep → Type 0
SpellsStep line (Called asked padded) = (rest : List ℕ) × SpellsAs padded rest asked × IsByRank asked × (line ≡ codes "call " ++ rest)
SpellsStep line (Stepped rank count) = (rank < 1024) × (0 < count) × (count < 10000) × (line ≡ codes "step " ++ (decimal rank ++ 32 ∷ decimal count))
SpellsStep line (Before rank name) = (rank < 1024) × (line ≡ codes "before " ++ (decimal rank ++ 32 ∷ step_text name))
SpellsStep line (Finished rank) = (rank < 1024) × (line ≡ codes "finish " ++ decimal rank)
SpellsStep line (Failed rank) = (rank < 1024) × (line ≡ codes "fail " ++ decimal rank)
