-- Rows and notes, with one more.
use Rattle.std.proofs.Common.{◌≡◌, ◌∙◌, ℕ, Bool, true, false, if◌then◌else◌, List, [], ◌∷◌, ◌++◌, length, map, reverse, filter_map, get_or, drop, Option, Some, None, refl, sym, ap, ap₂, subst, append-nil}
use Rattle.std.specs.{List.{cons_option}, Option.{option_map}}
use Rattle.std.proofs.lemmas.List.{reverse-reverse}
use Rattle.std.proofs.lemmas.List.Elements.{filter_map-append}
use Rattle.ulfm_laws.specs.{declared.flag_and.FlagAnd.{FlagAnd}, Flags.{flag_meld}}
use Rattle.ulfm_model.specs.declared.{contribution.Slot.{Slot}, event.Entry.{Entry}}
use Rattle.ulfm_model.specs.History.{History, decision, is_decided, says}
use Rattle.ulfm_model.specs.declared.limits.Limits.{Limits}
use Rattle.std.specs.Prelude.{unwrap_or}
use Rattle.ulfm_model.proofs.Lists.{reverse_push}
use Rattle.ulfm_story.specs.declared.{rows.{Note.{Note}, Row.{Row}}, telling.Telling.{Telling}}
use Rattle.ulfm_script.specs.Buffers.{HasNoNewline}
use Rattle.ulfm_story.specs.{Decisions.{TellsDecision, decided_text}, Tellings.{AreRowsOf, EndsAt, IsRowOf, IsTold, TellsLines}}
use Rattle.ulfm_story.specs.Stories.{Told, decisions, entry_of, events_of, told_at, told_below, told_by, told_of}

-- one row more
pub events_push : (rows : List Row) (row : Row) → events_of (rows ++ row ∷ []) ≡ events_of rows ++ cons_option (entry_of row.line) []
events_push rows row = filter_map-append (λ (r : Row). entry_of r.line) rows (row ∷ [])

pub decisions_push : (ranks : ℕ) (rows : List Row) (row : Row) → decisions ranks (rows ++ row ∷ []) ≡ decisions ranks rows ++ cons_option (told_below ranks rows (entry_of row.line)) []
decisions_push ranks rows row =
    ap (told_by ranks) (reverse_push rows row)
    ∙ ap (λ (above : List Row). told_by ranks (reverse rows) ++ cons_option (told_below ranks above (entry_of row.line)) []) (reverse-reverse rows)

-- a row without an event
pub events_quiet : (rows : List Row) (row : Row) → entry_of row.line ≡ None → events_of (rows ++ row ∷ []) ≡ events_of rows
events_quiet rows row none = events_push rows row ∙ ap (λ (o : Option (Entry FlagAnd)). events_of rows ++ cons_option o []) none ∙ append-nil (events_of rows)

pub decisions_quiet : (ranks : ℕ) (rows : List Row) (row : Row) → entry_of row.line ≡ None → decisions ranks (rows ++ row ∷ []) ≡ decisions ranks rows
decisions_quiet ranks rows row none =
    decisions_push ranks rows row ∙ ap (λ (o : Option (Entry FlagAnd)). decisions ranks rows ++ cons_option (told_below ranks rows o) []) none
    ∙ append-nil (decisions ranks rows)

-- a row with one
pub events_loud : (rows : List Row) (row : Row) (entry : Entry FlagAnd) → entry_of row.line ≡ Some entry → events_of (rows ++ row ∷ []) ≡ events_of rows ++ entry ∷ []
events_loud rows row entry is = events_push rows row ∙ ap (λ (o : Option (Entry FlagAnd)). events_of rows ++ cons_option o []) is

pub decisions_loud : (ranks : ℕ) (rows : List Row) (row : Row) (entry : Entry FlagAnd) (at : ℕ) → entry_of row.line ≡ Some entry → at ≡ length rows
    → decisions ranks (rows ++ row ∷ []) ≡ decisions ranks rows ++ cons_option (told_at ranks (events_of rows ++ entry ∷ []) at (says entry.event).settles) []
decisions_loud ranks rows row entry at is here =
    decisions_push ranks rows row ∙ ap (λ (o : Option (Entry FlagAnd)). decisions ranks rows ++ cons_option (told_below ranks rows o) []) is
    ∙ ap (λ (n : ℕ). decisions ranks rows ++ cons_option (told_at ranks (events_of rows ++ entry ∷ []) n (says entry.event).settles) []) (sym here)

-- what is told, by its parts
abbrev told_so : ℕ → List ℕ → ℕ → Told
told_so row words round = record { row = row; round = round; words = words }

-- one note more
pub notes_push : {A : Type 0} (notes : List (Note A)) (note : Note A) → filter_map told_of (notes ++ note ∷ []) ≡ filter_map told_of notes ++ cons_option (told_of note) []
notes_push notes note = filter_map-append told_of notes (note ∷ [])

-- .. of no round
pub notes_other : {A : Type 0} (notes more : List (Note A)) (note : Note A) → more ≡ notes ++ note ∷ [] → note.round ≡ None → filter_map told_of more ≡ filter_map told_of notes
notes_other notes more note is none =
    let nothing : told_of note ≡ None = ap (λ (o : Option ℕ). option_map (told_so note.row note.words.items) o) none in
    ap (filter_map told_of) is ∙ notes_push notes note ∙ ap (λ (o : Option Told). filter_map told_of notes ++ cons_option o []) nothing
    ∙ append-nil (filter_map told_of notes)

-- what settles a place, by the place
put_of : (settles : Option ((ℕ × ℕ × ℕ) × Slot FlagAnd)) (p : ℕ × ℕ × ℕ) → option_map (λ put. put.0) settles ≡ Some p → (given : Slot FlagAnd) × (settles ≡ Some (p, given))
put_of None p is = absurd cc
put_of (Some at) p is =
    let same : at.0 ≡ p = ap (λ (o : Option (ℕ × ℕ × ℕ)). unwrap_or o at.0) is in (at.1, ap (λ (q : ℕ × ℕ × ℕ). Some (q, at.1)) same)

-- what is decided is noted
pub one_noted : {A : Type 0} (ranks : ℕ) (h : History FlagAnd) (at : ℕ) (notes more : List (Note A)) (note : Note A) (settles : Option ((ℕ × ℕ × ℕ) × Slot FlagAnd)) (p : ℕ × ℕ × ℕ)
    → option_map (λ put. put.0) settles ≡ Some p → more ≡ notes ++ note ∷ [] → is_decided ranks h (p.0) (p.1) ≡ true → note.row ≡ at → note.round ≡ Some (p.1)
    → note.words.items ≡ decided_text (p.0) (p.1) (decision flag_meld ranks h (p.0) (p.1))
    → filter_map told_of more ≡ filter_map told_of notes ++ cons_option (told_at ranks h at settles) []
one_noted ranks h at notes more note settles p place is done row round words =
    let put = put_of settles p place in
    let made = decided_text (p.0) (p.1) (decision flag_meld ranks h (p.0) (p.1)) in
    let told : told_of note ≡ Some (told_so at made (p.1)) =
    ap (λ (o : Option ℕ). option_map (told_so note.row note.words.items) o) round ∙ ap (λ (x : ℕ). Some (told_so x note.words.items (p.1))) row
    ∙ ap (λ (ws : List ℕ). Some (told_so at ws (p.1))) words in
    let here : told_at ranks h at settles ≡ Some (told_so at made (p.1)) =
    ap (told_at ranks h at) (put.1) ∙ ap (λ (b : Bool). if b then Some (told_so at made (p.1)) else None) done in
    ap (filter_map told_of) is ∙ notes_push notes note ∙ ap (λ (o : Option Told). filter_map told_of notes ++ cons_option o []) (told ∙ sym here)

-- a row more of a text's lines
pub rows_push : (text : List ℕ) (rows : List Row) (left behind : List ℕ) (row : Row) → AreRowsOf text rows left → IsRowOf left row behind → AreRowsOf text (rows ++ row ∷ []) behind
rows_push text [] left behind row are is = (behind, subst (λ (xs : List ℕ). IsRowOf xs row behind) (sym are) is, refl)
rows_push text (x ∷ rows) left behind row are is = (are.0, are.1, rows_push are.0 rows left behind row are.2 is)

-- so many rows of a text's lines were told, behind which this is left
abbrev pub ToldSo : {A : Type 0} → Limits → List ℕ → List ℕ → ℕ → Telling A → Type 0
ToldSo limits text left number telling = (rows : List Row) × IsTold limits telling rows × AreRowsOf text rows left × (length rows ≡ number)

-- telling ends there: so many rows were wanted, or no line is left
pub stops : {A : Type 0} (limits : Limits) (text left : List ℕ) (number most : ℕ) (telling : Telling A) (so : ToldSo limits text left number telling)
    → EndsAt most (length so.0) left → TellsLines limits text most telling
stops limits text left number most telling so ends = record { rows = so.0; left = left; is_told = so.1; are_rows = so.2; ends = ends }

-- a text without a newline has no first line
pub no_split : (line behind : List ℕ) → HasNoNewline (line ++ 10 ∷ behind) → ⊥
no_split [] behind free = free.0 refl
no_split (x ∷ line) behind free = no_split line behind free.1

-- a text has one first line
pub same_line : (a b c d : List ℕ) → HasNoNewline a → HasNoNewline b → a ++ 10 ∷ c ≡ b ++ 10 ∷ d → a ≡ b
same_line [] [] c d one other is = refl
same_line [] (y ∷ b) c d one other is = absurd (other.0 (sym (ap (λ (xs : List ℕ). get_or xs 0 0) is)))
same_line (x ∷ a) [] c d one other is = absurd (one.0 (ap (λ (xs : List ℕ). get_or xs 0 0) is))
same_line (x ∷ a) (y ∷ b) c d one other is =
    ap₂ (λ (z : ℕ) (zs : List ℕ). z ∷ zs) (ap (λ (xs : List ℕ). get_or xs 0 0) is) (same_line a b c d one.1 other.1 (ap (drop 1) is))
