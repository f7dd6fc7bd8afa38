-- What a trace tells, row by row: its events, and what rounds decide.
use Rattle.std.specs.Prelude.{◌≡◌, ℕ, if◌then◌else◌, List, [], ◌∷◌, ◌++◌, length, reverse, filter_map, Option, Some, None}
use Rattle.std.specs.{List.{cons_option}, Option.{option_map}}
use Rattle.ulfm_laws.specs.{Flags.{flag_meld}, declared.flag_and.FlagAnd.{FlagAnd}}
use Rattle.ulfm_model.specs.History.{History, decision, is_decided, says}
use Rattle.ulfm_model.specs.declared.{contribution.Slot.{Slot}, event.Entry.{Entry}}
use Rattle.ulfm_model.specs.declared.line.Line.{Line}
use Rattle.ulfm_story.specs.declared.rows.{Note.{Note}, Row.{Row}}
use Rattle.ulfm_story.specs.Decisions.{decided_text}

-- the event of a line, with whose it is, if it tells one
abbrev pub entry_of : Line FlagAnd → Option (Entry FlagAnd)
entry_of (Line.Happened by (Some event)) = Some (record { by = by; event = event })
entry_of _ = None

-- the events of these rows
abbrev pub events_of : List Row → History FlagAnd
events_of rows = filter_map (λ row. entry_of row.line) rows

-- what is told beside a row: the row's number, counted from 0, the round that is decided there, and the words
pub record Told : Type 0 where
  pub row : ℕ
  pub round : ℕ
  pub words : List ℕ

-- what is told where a member of a round is settled: the decision, if by these events each member is
abbrev pub told_at : ℕ → History FlagAnd → ℕ → Option ((ℕ × ℕ × ℕ) × Slot FlagAnd) → Option Told
told_at ranks h row None = None
told_at ranks h row (Some put) =
    let c = put.0.0 in let k = put.0.1 in
    let words = decided_text c k (decision flag_meld ranks h c k) in
    if is_decided ranks h c k then Some (record { row = row; round = k; words = words }) else None

-- what is told beside a row below others: by the events of those and its own
abbrev pub told_below : ℕ → List Row → Option (Entry FlagAnd) → Option Told
told_below ranks above None = None
told_below ranks above (Some entry) = told_at ranks (events_of above ++ entry ∷ []) (length above) (says entry.event).settles

-- what is told beside rows, of which the last is given first
abbrev pub told_by : ℕ → List Row → List Told
told_by ranks [] = []
told_by ranks (row ∷ past) = told_by ranks past ++ cons_option (told_below ranks (reverse past) (entry_of row.line)) []

-- the decisions of a trace, each at the row whose event settles the last member, by the events down to that row and no others
abbrev pub decisions : ℕ → List Row → List Told
decisions ranks rows = told_by ranks (reverse rows)

-- what a note tells of a round; nothing where it is of a barrier
abbrev pub told_of : {A : Type 0} → Note A → Option Told
told_of note = option_map (λ round. record { row = note.row; round = round; words = note.words.items }) note.round

-- these notes tell each decision of these rows, once, at its row and in its words, and no other
abbrev pub TellDecisions : {A : Type 0} → ℕ → List Row → List (Note A) → Type 0
TellDecisions ranks rows notes = filter_map told_of notes ≡ decisions ranks rows
