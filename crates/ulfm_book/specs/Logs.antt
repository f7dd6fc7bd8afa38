-- Logs of shared words: the limits, and then the events of a history, and the blocks and the wings that were set.
use Rattle.std.specs.Prelude.{List, [], ◌∷◌, Option, Some, None}
use Rattle.ulfm_model.specs.declared.{block.Beside.{Beside}, event.Entry.{Entry}, limits.Limits.{Limits}}
use Rattle.ulfm_model.specs.History.{History, IsLegal}
use Rattle.ulfm_words.specs.Besides.{Written, written}
use Rattle.ulfm_book.specs.declared.{line.Line.{Line}, line.Line.TheVariants.{Opened, Made, Kept}}

-- the limits of a log that has none
abbrev pub no_limits : Limits
no_limits = record { ranks = 0; comms = 0; rounds = 0 }

-- the log of words that were opened with these limits
abbrev pub log_of : {P : Type 0} → Limits → List (Line P)
log_of limits = Opened limits ∷ []

-- the limits that a log begins with
abbrev pub limits_in : {P : Type 0} → List (Line P) → Limits
limits_in [] = no_limits
limits_in (Opened limits ∷ log) = limits
limits_in (Made entry ∷ log) = no_limits
limits_in (Kept beside ∷ log) = no_limits

-- the events of a log
abbrev pub history_in : {P : Type 0} → List (Line P) → History P
history_in [] = []
history_in (Opened limits ∷ log) = history_in log
history_in (Made entry ∷ log) = entry ∷ history_in log
history_in (Kept beside ∷ log) = history_in log

-- the blocks and the wings of a log
abbrev pub cached_in : {P : Type 0} → List (Line P) → List Beside
cached_in [] = []
cached_in (Opened limits ∷ log) = cached_in log
cached_in (Made entry ∷ log) = cached_in log
cached_in (Kept beside ∷ log) = beside ∷ cached_in log

-- all of these
abbrev pub written_in : {P : Type 0} → List (Line P) → Written P
written_in log = written (history_in log) (limits_in log) (cached_in log)

-- each line is an event, a block or a wing, and none has limits
abbrev pub HasNoLimits : {P : Type 0} → List (Line P) → Type 0
HasNoLimits [] = Unit {0}
HasNoLimits (Opened limits ∷ log) = ⊥
HasNoLimits (Made entry ∷ log) = HasNoLimits log
HasNoLimits (Kept beside ∷ log) = HasNoLimits log

-- the first line has the limits, and no other has any
abbrev pub HasLimitsFirst : {P : Type 0} → List (Line P) → Type 0
HasLimitsFirst [] = ⊥
HasLimitsFirst (Opened limits ∷ log) = HasNoLimits log
HasLimitsFirst (Made entry ∷ log) = ⊥
HasLimitsFirst (Kept beside ∷ log) = ⊥

-- the log has its limits first and once, and its history is legal
pub record IsLog {P : Type 0} (meld : P → P → P) (log : List (Line P)) : Type 0 where
  pub limits_first : HasLimitsFirst log
  pub legal : IsLegal meld (limits_in log) (history_in log)

-- the line of an event; a step without an event asks for none that a log could go on with
abbrev pub line_of : {P : Type 0} → Option (Entry P) → Line P
line_of None = Opened no_limits
line_of (Some entry) = Made entry
