-- What a piece of lines adds, and what it leaves of those whose lines it doesn't have.
use Rattle.std.proofs.Common.{◌≡◌, ℕ, ◌==◌, Bool, true, false, List, [], ◌∷◌, ◌++◌, find, map, Some, None, refl, ap, sym, ◌∙◌, append-nil, append_assoc, if◌then◌else◌}
use Rattle.std.specs.List.{AllByRecursion}
use Rattle.ulfm_model.specs.declared.event.Caller.{Caller}
use Rattle.ulfm_model.specs.{History.{History}, Records.{Record}}
use Rattle.ulfm_model.specs.declared.line.Line.{Line}
use Rattle.ulfm_model.specs.{Follows.{AreOf, is_of}, Traces.{Told, Traced, after, call_by, record_in, said_by, same_caller}}
use Rattle.ulfm_model.proofs.Callers.{same_is}
use Rattle.ulfm_lines.specs.Callers.{line_by}
use Rattle.ulfm_lines.proofs.Bystanders.{line_call, line_entries, line_history, line_record}
use Rattle.ulfm_run.specs.{Seats.{AreOthers}, Stepping.{events_by}}
use Rattle.ulfm_run.proofs.Replying.{by_append}

-- lines of one caller alone, its calls with them
abbrev pub AllBy : {P : Type 0} → Caller → List (Told P) → Type 0
AllBy by piece = AllByRecursion (λ told. line_by told.line ≡ by) piece

-- the events that a piece tells
abbrev pub piece_entries : {P : Type 0} → List (Told P) → History P
piece_entries [] = []
piece_entries (told ∷ rest) = line_entries told.line ++ piece_entries rest

-- a rank that has no record has none after a change of others, nor after one of its own
pub find_no_record : (r : ℕ) (f : Record → Record) → (records : List Record) → find (λ x. x.number == r) records ≡ None
    → map (λ own. if own.number == r then f own else own) records ≡ records
find_no_record r f [] none = refl
find_no_record r f (x ∷ xs) none = go (x.number == r) none (λ more. find_no_record r f xs more)
  where
    go : (b : Bool) → (if b then Some x else find (λ y. y.number == r) xs) ≡ None
        → (find (λ y. y.number == r) xs ≡ None → map (λ own. if own.number == r then f own else own) xs ≡ xs)
        → (if b then f x else x) ∷ map (λ own. if own.number == r then f own else own) xs ≡ x ∷ xs
    go true none more = absurd (cc none)
    go false none more = ap (λ ys. x ∷ ys) (more none)

module _ {P : Type 0} where
  -- others' lines leave a caller's call
  pub piece_call : (now : Traced P) (piece : List (Told P)) (by : Caller) → AreOthers by piece → call_by (said_by now piece) by ≡ call_by now by
  piece_call now [] by others = refl
  piece_call now (told ∷ rest) by others = piece_call (after now told.line) rest by others.1 ∙ line_call now told.line by others.0

  -- and a rank's record
  pub piece_record : (now : Traced P) (piece : List (Told P)) (s : ℕ) → AreOthers (Caller.Rank s) piece → record_in (said_by now piece) s ≡ record_in now s
  piece_record now [] s others = refl
  piece_record now (told ∷ rest) s others = piece_record (after now told.line) rest s others.1 ∙ line_record now told.line s others.0

  line_events : (by : Caller) (line : Line P) → same_caller (line_by line) by ≡ false → events_by by (line_entries line) ≡ []
  line_events by (Line.Called asked padded) differ = refl
  line_events by (Line.Looked r count) differ = refl
  line_events by (Line.Happened c None) differ = refl
  line_events by (Line.Happened c (Some event)) differ = ap (λ (b : Bool). if b then event ∷ [] else []) differ
  line_events by (Line.Replied c point reply) differ = refl

  -- nor do they tell an event of its
  pub piece_events : (by : Caller) (piece : List (Told P)) → AreOthers by piece → events_by by (piece_entries piece) ≡ []
  piece_events by [] others = refl
  piece_events by (told ∷ rest) others =
      by_append by (line_entries told.line) (piece_entries rest)
      ∙ (ap (λ es. es ++ events_by by (piece_entries rest)) (line_events by told.line others.0) ∙ piece_events by rest others.1)

  -- a piece adds the events that it tells
  pub piece_history : (now : Traced P) (piece : List (Told P)) → (said_by now piece).history ≡ now.history ++ piece_entries piece
  piece_history now [] = sym (append-nil now.history)
  piece_history now (told ∷ rest) =
      piece_history (after now told.line) rest
      ∙ (ap (λ h. h ++ piece_entries rest) (line_history now told.line) ∙ append_assoc now.history (line_entries told.line) (piece_entries rest))

  -- looks, events and replies in a caller's name are its lines
  of_by : (line : Line P) (by : Caller) → is_of by line ≡ true → line_by line ≡ by
  of_by (Line.Called asked padded) by is = absurd (cc is)
  of_by (Line.Looked r count) by is = same_is (Caller.Rank r) by is
  of_by (Line.Happened c event) by is = same_is c by is
  of_by (Line.Replied c point reply) by is = same_is c by is

  pub are_by : (by : Caller) (piece : List (Told P)) → AreOf by piece → AllBy by piece
  are_by by [] all = tt
  are_by by (told ∷ rest) all = (of_by told.line by all.0, are_by by rest all.1)

  -- one caller's lines are others' for another
  pub others_of : (by other : Caller) (piece : List (Told P)) → AllBy by piece → same_caller by other ≡ false → AreOthers other piece
  others_of by other [] all differ = tt
  others_of by other (told ∷ rest) all differ = (ap (λ c. same_caller c other) all.0 ∙ differ, others_of by other rest all.1 differ)
