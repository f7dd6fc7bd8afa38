-- What is told of outcomes: each once, the questions' answers, and how many there are. A text that is told stands behind what was told before.
use Rattle.std.specs.Prelude.{ℕ, ◌+◌, min, Bool, true, false, if◌then◌else◌, List, [], ◌∷◌, ◌++◌, length, Option, Some, None, codes, slice_get}
use Rattle.std.specs.{Fmt.{decimal}, Str.{bytes_eq}}
use Rattle.ulfm_script.specs.Scripts.{lines_from}
use Rattle.ulfm_schedules.specs.{Programs.{text_at}, Words.{has_words}}
use Rattle.ulfm_schedules.specs.declared.moves.Fate.{Fate}
use Rattle.ulfm_schedules.specs.declared.moves.Fate.TheVariants.{Runs, Ended, Out, Died}
use Rattle.ulfm_schedules.specs.declared.program.{Find.{Find}, Program.{Program}}
use Rattle.ulfm_explore.specs.declared.telling.Question.{Question}
use Rattle.ulfm_explore.specs.declared.telling.Question.TheVariants as question

-- what became of a rank, and what it noted
abbrev pub Line : Type 0
Line = Fate × List ℕ

-- an outcome, by its ranks, with the script that shows it
abbrev pub Told : Type 0
Told = List Line × List ℕ

-- a number behind one, of 32 bits
abbrev pub next_number : ℕ → ℕ
next_number n = min (n + 1) 4294967295

-- the word of a fate
abbrev pub fate_text : Fate → List ℕ
fate_text Runs = codes "stuck"
fate_text Ended = codes "ended"
fate_text Out = codes "out"
fate_text Died = codes "died"

-- notes, each behind a sign
abbrev pub notes_to : List ℕ → List ℕ → List (List ℕ) → List ℕ
notes_to out sign [] = out
notes_to out sign (note ∷ notes) = notes_to ((out ++ sign) ++ note) (codes "; ") notes

-- the line of a rank
abbrev pub row_to : List ℕ → ℕ → Line → List ℕ
row_to out number row =
    notes_to ((((out ++ codes "rank ") ++ decimal number) ++ 32 ∷ []) ++ fate_text row.0) (codes ": ") (lines_from [] row.1) ++ 10 ∷ []

-- the lines of ranks, counted from this number
abbrev pub rows_to : List ℕ → ℕ → List Line → List ℕ
rows_to out number [] = out
rows_to out number (row ∷ rows) = rows_to (row_to out number row) (next_number number) rows

-- a line `outcome NUMBER`
abbrev pub number_to : List ℕ → ℕ → List ℕ
number_to out number = ((out ++ codes "outcome ") ++ decimal number) ++ 10 ∷ []

-- an outcome with its number
abbrev pub outcome_to : List ℕ → ℕ → List Line → List ℕ
outcome_to out number rows = rows_to (number_to out number) 0 rows

-- outcomes, counted from this number
abbrev pub outcomes_to : List ℕ → ℕ → List Told → List ℕ
outcomes_to out number [] = out
outcomes_to out number (told ∷ more) = outcomes_to (outcome_to out number told.0) (next_number number) more

-- some rank of a list is so
abbrev pub some : (ℕ → Bool) → List ℕ → Bool
some is [] = false
some is (rank ∷ ranks) = if is rank then true else some is ranks

-- whether a rank ended with other words
abbrev pub ended_otherwise : List ℕ → Option Line → Bool
ended_otherwise words None = false
ended_otherwise words (Some (Runs, noted)) = false
ended_otherwise words (Some (Ended, noted)) = if bytes_eq words noted then false else true
ended_otherwise words (Some (Out, noted)) = false
ended_otherwise words (Some (Died, noted)) = false

-- whether two ranks ended with different words
abbrev pub differ : Option Line → Option Line → Bool
differ None other = false
differ (Some (Runs, noted)) other = false
differ (Some (Ended, noted)) other = ended_otherwise noted other
differ (Some (Out, noted)) other = false
differ (Some (Died, noted)) other = false

-- whether two of these ranks ended with different words
abbrev pub is_unlike : List Line → List ℕ → Bool
is_unlike rows ranks = some (λ rank. some (λ other. differ (slice_get rows rank) (slice_get rows other)) ranks) ranks

-- whether a rank is stuck
abbrev pub is_stuck_one : Option Line → Bool
is_stuck_one None = false
is_stuck_one (Some (Runs, noted)) = true
is_stuck_one (Some (Ended, noted)) = false
is_stuck_one (Some (Out, noted)) = false
is_stuck_one (Some (Died, noted)) = false

-- whether one of these ranks is stuck
abbrev pub is_stuck : List Line → List ℕ → Bool
is_stuck rows ranks = some (λ rank. is_stuck_one (slice_get rows rank)) ranks

-- whether words stand together in one of these notes
abbrev pub some_note : List ℕ → List (List ℕ) → Bool
some_note words [] = false
some_note words (note ∷ notes) = if has_words note words then true else some_note words notes

-- whether words are a rank's fate, or stand together in one of its notes
abbrev pub has_noted : List ℕ → Option Line → Bool
has_noted words None = false
has_noted words (Some row) = if bytes_eq (fate_text row.0) words then true else some_note words (lines_from [] row.1)

-- whether all that is looked for is so
abbrev pub has_all : {A : Type 0} → Program A → List Line → List Find → Bool
has_all program rows [] = true
has_all program rows (find ∷ more) = if has_noted (text_at program find.text) (slice_get rows find.rank) then has_all program rows more else false

-- whether an outcome answers a question
abbrev pub is_answer : {A : Type 0} → Program A → Question → List Line → Bool
is_answer program question.Alike rows = is_unlike rows program.alike.items
is_answer program question.Ended rows = is_stuck rows program.ended.items
is_answer program question.Find rows = has_all program rows program.find.items

-- the word of a question
abbrev pub question_text : Question → List ℕ
question_text question.Alike = codes "alike "
question_text question.Ended = codes "ended "
question_text question.Find = codes "find "

-- whether a list has something
abbrev pub has_some : {T : Type 0} → List T → Bool
has_some [] = false
has_some (x ∷ xs) = true

-- whether a program asks a question
abbrev pub is_asked_for : {A : Type 0} → Program A → Question → Bool
is_asked_for program question.Alike = has_some program.alike.items
is_asked_for program question.Ended = has_some program.ended.items
is_asked_for program question.Find = has_some program.find.items

-- that no outcome answers a question: of those that came up, where not all schedules were tried
abbrev pub none_text : Bool → List ℕ
none_text is_whole = if is_whole then codes "none\n" else codes "none so far\n"

-- the outcome of this number, with its script
abbrev pub found_to : List ℕ → ℕ → List ℕ → List ℕ
found_to out number script = (number_to out number ++ script) ++ codes "end\n"

-- the first outcome that answers a question, counted from this number, with its script; or that there is none
abbrev pub answer_to : {A : Type 0} → List ℕ → Program A → Question → Bool → ℕ → List Told → List ℕ
answer_to out program question is_whole number [] = out ++ none_text is_whole
answer_to out program question is_whole number (told ∷ more) =
    if is_answer program question told.0 then found_to out number told.1
    else answer_to out program question is_whole (next_number number) more

-- the answer to a question, where it is asked
abbrev pub question_to : {A : Type 0} → List ℕ → Program A → Question → Bool → List Told → List ℕ
question_to out program question is_whole told =
    if is_asked_for program question then answer_to (out ++ question_text question) program question is_whole 1 told else out

-- the answers to all questions
abbrev pub questions_to : {A : Type 0} → List ℕ → Program A → Bool → List Told → List ℕ
questions_to out program is_whole told =
    question_to (question_to (question_to out program question.Alike is_whole told) program question.Ended is_whole told) program question.Find is_whole told

-- how many outcomes there are: all, or some, where not all schedules were tried
abbrev pub count_text : Bool → List ℕ
count_text is_whole = if is_whole then codes "all" else codes "some"

-- the last line
abbrev pub counts_to : List ℕ → Bool → ℕ → ℕ → List ℕ
counts_to out is_whole outcomes states =
    ((((out ++ count_text is_whole) ++ codes " outcomes ") ++ decimal outcomes) ++ codes " states ") ++ decimal states ++ 10 ∷ []

-- a number of at most 32 bits
abbrev pub short : ℕ → ℕ
short n = min n 4294967295

-- all that is told of a program
abbrev pub told_text : {A : Type 0} → Program A → List Told → Bool → ℕ → List ℕ
told_text program told is_whole states =
    counts_to (questions_to (outcomes_to [] 1 told) program is_whole told) is_whole (short (length told)) states
