-- What is kept while a trace is told, and the story in the end.
use Rattle.std.specs.Prelude.{◌≡◌, ◌⊎◌, ℕ, length, List, [], ◌∷◌, ◌++◌}
use Rattle.ulfm_laws.specs.declared.flag_and.FlagAnd.{FlagAnd}
use Rattle.ulfm_model.specs.declared.limits.Limits.{Limits}
use Rattle.ulfm_script.specs.Buffers.{HasNoNewline}
use Rattle.ulfm_lines.specs.Telling.{TextTells}
use Rattle.ulfm_model.specs.declared.line.Line.{Line}
use Rattle.ulfm_story.specs.declared.{rows.Row.{Row}, telling.Telling.{Telling}}
use Rattle.ulfm_story.specs.{Rounds.{TellRounds}, Rows.{IsRow}, Stories.{TellDecisions, events_of}}

-- these rows were told, with what rounds decided in them
pub record IsTold {A : Type 0} (limits : Limits) (telling : Telling A) (rows : List Row) : Type 0 where
  pub world : telling.limits ≡ limits
  pub rows_are : telling.rows.items ≡ rows
  pub notes : TellDecisions limits.ranks rows telling.notes.items
  pub rounds : TellRounds limits.ranks telling.rounds (events_of rows)

-- a row of this line was told behind them
abbrev pub TellsMore : {A : Type 0} → Limits → Telling A → List Row → Line FlagAnd → Type 0
TellsMore limits telling rows line = (row : Row) × IsRow line row × IsTold limits telling (rows ++ row ∷ [])

-- the row is of the first line of a text, behind which this is left
pub record IsRowOf (text : List ℕ) (row : Row) (left : List ℕ) : Type 0 where
  pub line : List ℕ
  pub ranks : List ℕ
  pub free : HasNoNewline line
  pub splits : text ≡ line ++ 10 ∷ left
  pub told : Line FlagAnd
  pub tells : TextTells line ranks told
  pub is_row : IsRow told row

-- the rows are those of a text's lines, one after another, behind which this is left
abbrev pub AreRowsOf : List ℕ → List Row → List ℕ → Type 0
AreRowsOf text [] left = text ≡ left
AreRowsOf text (row ∷ rows) left = (behind : List ℕ) × IsRowOf text row behind × AreRowsOf behind rows left

-- the text has no first line that is one of a trace
abbrev pub HasNoLine : List ℕ → Type 0
HasNoLine text =
    (line behind ranks : List ℕ) (told : Line FlagAnd) → HasNoNewline line → text ≡ line ++ 10 ∷ behind → TextTells line ranks told → ⊥

-- so many rows were told, or no line is left
abbrev pub EndsAt : ℕ → ℕ → List ℕ → Type 0
EndsAt most count left = (count ≡ most) ⊎ HasNoLine left

-- the rows were told of a text, up to so many
pub record TellsLines {A : Type 0} (limits : Limits) (text : List ℕ) (most : ℕ) (telling : Telling A) : Type 0 where
  pub rows : List Row
  pub left : List ℕ
  pub is_told : IsTold limits telling rows
  pub are_rows : AreRowsOf text rows left
  pub ends : EndsAt most (length rows) left
