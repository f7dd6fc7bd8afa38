-- How running the text of a script ends, whatever kind of script it is.
use Rattle.std.specs.Prelude.{◌≡◌, ◌⊎◌, ℕ, ◌+◌, ◌≤◌, List, [], ◌∷◌, ◌++◌, length, Option, Some, None, IfSome, Result, Ok, Err}
use Rattle.std.specs.Io.KnownBytes.{Appends, Consumes, IsAtEnd, prepend_known}
use Rattle.ulfm_script.specs.declared.{heading.Heading.{Heading}, version.Version.{Version}}
use Rattle.ulfm_script.specs.declared.line_kind.LineKind.{LineKind}
use Rattle.ulfm_script.specs.declared.fault.RunFault.{RunFault}
use Rattle.ulfm_script.specs.declared.fault.RunFault.TheVariants.{Line, Memory, Read, Write}
use Rattle.ulfm_script.specs.{Buffers.{HasNoNewline, IsOfLine}, Written.{IsBeginning, IsBuffered, Outgoing, WritesPart}}
use Rattle.ulfm_script.specs.Scripts.{Language, header_at, item_at, lines_from, rest_from, script_of, without_header}

-- what these items print on a new world of these limits; a script without a header prints nothing
abbrev pub PrintsFrom : (lang : Language) → Option Heading → List lang.Item → List ℕ → Type 0
PrintsFrom lang None items out = out ≡ []
PrintsFrom lang (Some heading) items out = lang.Prints heading.limits items out

-- the first items of a text print this, or nothing is printed
abbrev pub PrintsSome : Language → List ℕ → List ℕ → Type 0
PrintsSome lang text out =
    let script = script_of lang text in
    (out ≡ []) ⊎ ((first : List lang.Item) × IsBeginning first script.items × PrintsFrom lang script.heading first out)

-- all items of a text print this
abbrev pub PrintsAll : Language → List ℕ → List ℕ → Type 0
PrintsAll lang text out = let script = script_of lang text in PrintsFrom lang script.heading script.items out

-- the bytes that a reader has left, or that a writer has, where they are known
abbrev pub KnownText : Type 0
KnownText = Option (List ℕ)

-- the reader's text, where it is known
abbrev pub IsTextOf : KnownText → List ℕ → Type 0
IsTextOf known text = IfSome known (λ xs. text ≡ xs)

-- how a run ended
abbrev pub RunEnd : Type 0
RunEnd = Result (Unit {0}) RunFault

-- the same of a run that gives something at its end
abbrev pub ended : {T : Type 0} → Result T RunFault → RunEnd
ended (Ok given) = Ok tt
ended (Err fault) = Err fault

-- what is said of an output
abbrev pub Claim : Type 1
Claim = List ℕ → Type 0

-- the run of a reader's whole text, which has this first fault or none, and what all items up to there print
pub record WholeRun (lang : Language) (known : KnownText) (fault : Option (ℕ × LineKind)) : Type 0 where
  pub text : List ℕ
  pub out : List ℕ
  pub whole : IsTextOf known text
  pub faults : (script_of lang text).fault ≡ fault
  pub printed : PrintsAll lang text out

-- such a run, whose output is told
abbrev pub RunsAll : Language → KnownText → Option (ℕ × LineKind) → Claim → Type 0
RunsAll lang known fault Told = (run : WholeRun lang known fault) × Told run.out

-- the run of a reader's whole text that found a fault which no line alone shows, and what the items before it print
pub record FaultyRun (lang : Language) (known : KnownText) (number : ℕ) (kind : LineKind) : Type 0 where
  pub text : List ℕ
  pub heading : Heading
  pub out : List ℕ
  pub whole : IsTextOf known text
  pub opened : (script_of lang text).heading ≡ Some heading
  pub finds : lang.Finds heading.limits (script_of lang text).items number kind out
  pub printed : PrintsSome lang text out

-- such a run, whose output is told
abbrev pub FindsFault : Language → KnownText → ℕ → LineKind → Claim → Type 0
FindsFault lang known number kind Told = (run : FaultyRun lang known number kind) × Told run.out

-- What was taken of the reader's bytes are whole lines, so many that the next one has this number, and then a part of that line or all of it.
pub record TakesUpTo (number : ℕ) (known left : KnownText) : Type 0 where
  pub lines : List ℕ
  pub part : List ℕ
  pub taken : Consumes known left (lines ++ part)
  pub whole : rest_from [] lines ≡ []
  pub counted : length (lines_from [] lines) + 1 ≡ number
  pub partly : IsOfLine part

-- whole lines without a fault, the header among them, or no line at all
abbrev pub HasNoFault : Language → List ℕ → Type 0
HasNoFault lang text = (text ≡ []) ⊎ ((script_of lang text).fault ≡ None)

-- A run that stopped inside a line: what was taken of the reader's bytes are lines without a fault, with the output of all items,
-- and then a part of the line that was under work.
pub record StoppedRun (lang : Language) (known left : KnownText) (IsPart : Claim) : Type 0 where
  pub lines : List ℕ
  pub part : List ℕ
  pub out : List ℕ
  pub taken : Consumes known left (lines ++ part)
  pub right : HasNoFault lang lines
  pub partly : IsPart part
  pub printed : PrintsAll lang lines out

-- such a run, whose output is told
abbrev pub StopsInLine : Language → KnownText → KnownText → Claim → Claim → Type 0
StopsInLine lang known left IsPart Told = (run : StoppedRun lang known left IsPart) × Told run.out

-- A run whose writer failed: a part of what some first items print is told.
pub record StopsInOutput (lang : Language) (known : KnownText) (ToldInPart : Claim) : Type 0 where
  pub text : List ℕ
  pub out : List ℕ
  pub whole : IsTextOf known text
  pub printed : PrintsSome lang text out
  pub told : ToldInPart out

-- How the run of a reader's text ended, where these bytes were read and not taken. At its end, the whole text was read and has no fault,
-- and what all its items print is told. At the fault of a line, it is the text's first one, or one that no line alone shows, what all items
-- before it print is told, and nothing behind this line was taken. Where memory was refused, what all items print is told that were taken before
-- the line under work. Where the reader failed, what all items print that it gave whole. Where the writer failed, a part of what the first items
-- print.
abbrev pub Ends : Language → KnownText → KnownText → List ℕ → Claim → Claim → RunEnd → Type 0
Ends lang known left ahead Told ToldInPart (Ok done) = RunsAll lang known None Told × IsAtEnd left
Ends lang known left ahead Told ToldInPart (Err (Line number kind)) =
    (RunsAll lang known (Some (number, kind)) Told ⊎ FindsFault lang known number kind Told) × TakesUpTo number known (prepend_known ahead left)
Ends lang known left ahead Told ToldInPart (Err Memory) = StopsInLine lang known (prepend_known ahead left) IsOfLine Told
Ends lang known left ahead Told ToldInPart (Err Read) = StopsInLine lang known left HasNoNewline Told × (ahead ≡ [])
Ends lang known left ahead Told ToldInPart (Err Write) = StopsInOutput lang known ToldInPart

-- a run through a buffer that the caller sees: what was to be taken, what the reader has left and what is read ahead; what the writer had
-- and has
abbrev pub EndsThrough : Language → KnownText → KnownText → List ℕ → KnownText → KnownText → RunEnd → Type 0
EndsThrough lang known left ahead old new result = Ends lang known left ahead (Appends old new) (WritesPart old new) result

-- the same, but for what waits to be written
abbrev pub EndsUpTo : Language → KnownText → KnownText → List ℕ → KnownText → Outgoing → RunEnd → Type 0
EndsUpTo lang known left ahead old new result = Ends lang known left ahead (IsBuffered old new) (WritesPart old new.written) result

-- a run through a buffer of its own, which reads at most 8192 bytes ahead: what the reader had and has left, what the writer had and has
abbrev pub EndsAlone : Language → KnownText → KnownText → KnownText → KnownText → RunEnd → Type 0
EndsAlone lang known left old new result = (ahead : List ℕ) × (length ahead ≤ 8192) × EndsThrough lang known left ahead old new result

-- what a machine has run and printed: its script's first line, the items, and the output
abbrev pub Stage : Language → Type 1
Stage lang = Heading → List lang.Item → List ℕ → Type 0

-- A machine has run all items of a reader's whole text, which has no fault: what it printed is told.
pub record HasRunAll (lang : Language) (HasRun : Stage lang) (known : KnownText) (Told : Claim) : Type 0 where
  pub text : List ℕ
  pub heading : Heading
  pub items : List lang.Item
  pub out : List ℕ
  pub whole : IsTextOf known text
  pub script_is : script_of lang text ≡ record { heading = Some heading; items = items; fault = None }
  pub has_run : HasRun heading items out
  pub told : Told out

-- a machine was opened by the first line, and printed this
pub record IsOpened (lang : Language) (HasRun : Stage lang) (old new : KnownText) (text : List ℕ) : Type 0 where
  pub line : List ℕ
  pub heading : Heading
  pub free : HasNoNewline line
  pub header : header_at lang line ≡ Ok heading
  pub taken : Consumes old new (line ++ 10 ∷ [])
  pub new_one : HasRun heading [] text

-- A machine was opened by the first line; or the text's script has no header; or memory was refused or the reader failed. In these three cases a
-- part of the first line was taken, or all of it. Where the reader failed, nothing is pending.
abbrev pub Opens : {M : Type 0} → (lang : Language) → (M → Stage lang) → (M → List ℕ) → KnownText → KnownText → List ℕ → Result M RunFault → Type 0
Opens lang HasRun text old new bytes (Ok machine) = IsOpened lang (HasRun machine) old new (text machine)
Opens lang HasRun text old new bytes (Err (Line number kind)) =
    (all : List ℕ) × IsTextOf old all × (number ≡ 1) × (script_of lang all ≡ without_header kind) × TakesUpTo 1 old new
Opens lang HasRun text old new bytes (Err Memory) = (part : List ℕ) × IsOfLine part × Consumes old new part
Opens lang HasRun text old new bytes (Err Read) = (part : List ℕ) × HasNoNewline part × (bytes ≡ []) × Consumes old new part
Opens lang HasRun text old new bytes (Err Write) = ⊥

-- what was run of a script so far: its first line, the items, and what they printed
pub record RunSoFar (lang : Language) : Type 0 where
  pub heading : Heading
  pub items : List lang.Item
  pub out : List ℕ

-- a line with this item or fault can't be run behind what was run: it has the fault, or running it finds the fault
abbrev pub HasFault : (lang : Language) → RunSoFar lang → Result lang.Item LineKind → LineKind → Type 0
HasFault lang before read kind =
    (read ≡ Err kind)
    ⊎ ((item : lang.Item) × (read ≡ Ok item)
    × ((behind : List lang.Item) → lang.Finds before.heading.limits (before.items ++ item ∷ behind) (length before.items + 2) kind before.out))

-- a line with this item or fault was run behind what was run, and printed this; or it can't be run
abbrev pub TakesItem : (lang : Language) → Stage lang → RunSoFar lang → Result lang.Item LineKind → List ℕ → Result (Unit {0}) LineKind → Type 0
TakesItem lang HasRun before read text (Ok done) =
    (item : lang.Item) × (read ≡ Ok item) × HasRun before.heading (before.items ++ item ∷ []) (before.out ++ text)
TakesItem lang HasRun before read text (Err kind) = HasFault lang before read kind

-- a line of a script as it is read: its number, and its item or its first fault
pub record ScriptLine (lang : Language) : Type 0 where
  pub number : ℕ
  pub read : Result lang.Item LineKind

-- the line of this number with this text, in a script of this version
abbrev pub line_at : (lang : Language) → Version → ℕ → List ℕ → ScriptLine lang
line_at lang version number text = record { number = number; read = item_at lang version number text }

-- A line was run behind what was run, and what it prints is written or waits behind what waited before. Where it has a fault or memory was refused,
-- what waited is written or waits, and nothing more. Where the writer failed, a beginning of what waited is written.
abbrev pub RunsLine : (lang : Language) → Stage lang → RunSoFar lang → ScriptLine lang → Outgoing → Outgoing → RunEnd → Type 0
RunsLine lang HasRun before line old new (Ok done) =
    (text : List ℕ) × TakesItem lang HasRun before line.read text (Ok tt) × IsBuffered old.written new (old.waiting ++ text)
RunsLine lang HasRun before line old new (Err (Line number kind)) =
    (number ≡ line.number) × HasFault lang before line.read kind × IsBuffered old.written new old.waiting
RunsLine lang HasRun before line old new (Err Memory) = IsBuffered old.written new old.waiting
RunsLine lang HasRun before line old new (Err Write) = WritesPart old.written new.written old.waiting
RunsLine lang HasRun before line old new (Err Read) = ⊥
