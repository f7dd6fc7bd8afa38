-- What became of a rank, read off a trace: the rank's program goes along with the trace's lines.
use Rattle.std.specs.Prelude.{◌≡◌, ℕ, zero, suc, Bool, true, false, ◌==◌, nat_lt, if◌then◌else◌, List, [], ◌∷◌, ◌++◌, map, Option, Some, None, Result, Ok, Err, codes, slice_get, unwrap_or}
use Rattle.std.specs.Str.{bytes_eq}
use Rattle.ulfm_laws.specs.declared.flag_and.FlagAnd.{FlagAnd}
use Rattle.ulfm_model.specs.declared.call.Call.{Call}
use Rattle.ulfm_script.specs.{Digits.{read_number}, Scripts.{lines_from}, Spelling.{call_text}, Words.{first_word}}
use Rattle.ulfm_script.specs.declared.line_kind.LineKind.{LineKind}
use Rattle.ulfm_schedules.specs.Programs.{call_of, may_at, most_moves, move_at, next_of, op_at, text_at}
use Rattle.ulfm_schedules.specs.declared.moves.{Fate.{Fate}, Move.{Move}}
use Rattle.ulfm_schedules.specs.declared.moves.Fate.TheVariants.{Runs, Ended, Out, Died}
use Rattle.ulfm_schedules.specs.declared.moves.Move.TheVariants as move
use Rattle.ulfm_schedules.specs.declared.program.{Ask.{Ask}, May.{May}, Op.{Op}, Place.{Place}, Program.{Program}}
use Rattle.ulfm_schedules.specs.declared.program.Ask.TheVariants as ask
use Rattle.ulfm_schedules.specs.declared.program.May.TheVariants.{Stay, Die, Fail}
use Rattle.ulfm_schedules.specs.declared.program.Op.TheVariants as op
use Rattle.ulfm_schedules.specs.declared.program.Place.TheVariants as place

-- How far a rank has come: its fate, its place in its program, the last communicator that it got from a shrink, whether a call of it is under way, its last
-- reply but `started`, what it noted, how many declarations were called, how many ranks are declared, and whether each call was its program's.
pub record Reached : Type 0 where
  pub fate : Fate
  pub at : ℕ
  pub current : ℕ
  pub is_calling : Bool
  pub last : Option (List ℕ)
  pub noted : List ℕ
  pub called : ℕ
  pub failures : ℕ
  pub fits : Bool

-- whether a rank goes on or waits
abbrev pub runs : Fate → Bool
runs Runs = true
runs Ended = false
runs Out = false
runs Died = false

-- the text behind a word, which may be missing
abbrev pub text_behind : Option (List ℕ) → List ℕ
text_behind rest = unwrap_or rest []

-- a word is this number in decimal
abbrev pub is_given : ℕ → Result ℕ LineKind → Bool
is_given number (Ok n) = n == number
is_given number (Err kind) = false

abbrev pub is_number : List ℕ → ℕ → Bool
is_number word number = is_given number (read_number word)

-- a rank that noted these words, with a newline behind them
abbrev pub noting : List ℕ → Reached → Reached
noting words it = record it { noted = (it.noted ++ words) ++ 10 ∷ [] }

-- a rank that said these words
abbrev pub saying : List ℕ → Reached → Reached
saying words it = noting words (record it { noted = it.noted ++ codes "say " })

-- whether a program goes on behind a move by itself
abbrev pub is_on : Move → Bool
is_on move.Call = false
is_on (move.Go to) = true
is_on (move.Say text to) = true
is_on move.End = false

-- a rank whose program made this move
abbrev pub moved : {A : Type 0} → Program A → Move → Reached → Reached
moved program move.Call it = it
moved program (move.Go to) it = record it { at = to }
moved program (move.Say text to) it = record (saying (text_at program text) it) { at = to }
moved program move.End it = record it { fate = Ended }

-- a rank whose program went on to its next call or to its end, by so many moves at most
abbrev pub goes_on : {A : Type 0} → Program A → ℕ → ℕ → Reached → Reached
goes_on program rank zero it = it
goes_on program rank (suc left) it =
    let next = move_at program rank it.at it.last in
    if is_on next then goes_on program rank left (moved program next it) else moved program next it

-- the same, by as many moves as it takes
abbrev pub gone_on : {A : Type 0} → Program A → ℕ → Reached → Reached
gone_on program rank it = goes_on program rank (most_moves program rank) it

-- the communicator that a call is on
abbrev pub comm_at : ℕ → Place → ℕ
comm_at current (place.Given comm) = comm
comm_at current place.Current = current

-- the call that an operation makes, if it makes one
abbrev pub asked_by : ℕ → ℕ → Option Op → Option (Call FlagAnd)
asked_by rank current (Some (op.Call ask on quiet)) = Some (call_of ask rank (comm_at current on))
asked_by rank current _ = None

-- whether an operation declares this rank
abbrev pub declares : Option Op → List ℕ → Bool
declares (Some (op.Declare rank quiet)) whom = is_number whom rank
declares _ whom = false

-- whether an operation's reply is no part of the outcome
abbrev pub is_quiet : Option Op → Bool
is_quiet (Some (op.Call ask on quiet)) = quiet
is_quiet (Some (op.Declare whom quiet)) = quiet
is_quiet _ = true

-- whether a call is polled until its reply isn't pending
abbrev pub waits_by : Ask → Bool
waits_by ask.Wait = true
waits_by _ = false

-- whether an operation waits
abbrev pub is_wait : Option Op → Bool
is_wait (Some (op.Call ask on quiet)) = waits_by ask
is_wait _ = false

-- whether an operation makes no call
abbrev pub calls_nobody : Option Op → Bool
calls_nobody (Some (op.Go to)) = true
calls_nobody (Some (op.If text to)) = true
calls_nobody (Some (op.Say text)) = true
calls_nobody _ = false

-- whether a call's text is that of the call that was asked for
abbrev pub is_asked : List ℕ → Option (Call FlagAnd) → Bool
is_asked text None = false
is_asked text (Some asked) = bytes_eq (call_text asked) text

-- whether a rank may begin this call: it runs, no call of it is under way, and this is the next one of its program
abbrev pub may_begin : {A : Type 0} → Program A → ℕ → List ℕ → Reached → Bool
may_begin program rank text it =
    if it.is_calling then false else (if runs it.fate then is_asked text (asked_by rank it.current (op_at program rank it.at)) else false)

-- a rank that began this call
abbrev pub begun : {A : Type 0} → Program A → ℕ → List ℕ → Reached → Reached
begun program rank text it = record it { is_calling = true; fits = if may_begin program rank text it then it.fits else false }

-- the communicator that a reply names as a new one, and else this one
abbrev pub named_or : ℕ → Result ℕ LineKind → ℕ
named_or comm (Ok made) = made
named_or comm (Err kind) = comm

abbrev pub made_in : List ℕ → ℕ → ℕ
made_in reply comm =
    if bytes_eq (first_word reply).0 (codes "shrunk") then named_or comm (read_number (first_word (text_behind (first_word reply).1)).0) else comm

-- a rank whose last reply is this one
abbrev pub told : List ℕ → Bool → Reached → Reached
told reply quiet it = if quiet then record it { last = Some reply } else noting reply (record it { last = Some reply })

-- a rank behind such a reply: who is declared failed is out
abbrev pub after_reply : {A : Type 0} → Program A → ℕ → List ℕ → Reached → Reached
after_reply program rank reply it = if bytes_eq reply (codes "refused 1 self-failed") then record it { fate = Out } else gone_on program rank it

-- a rank that goes on behind its operation with this reply
abbrev pub behind : {A : Type 0} → Program A → ℕ → List ℕ → Bool → Reached → Reached
behind program rank reply quiet it =
    if bytes_eq reply (codes "started") then gone_on program rank it else after_reply program rank reply (told reply quiet it)

-- a rank that was answered so by its operation
abbrev pub answered_by : {A : Type 0} → Program A → ℕ → List ℕ → Option Op → Reached → Reached
answered_by program rank reply here it =
    if (if is_wait here then bytes_eq reply (codes "pending") else false) then record it { is_calling = false }
    else behind program rank reply (is_quiet here) (record it { is_calling = false; current = made_in reply it.current; at = next_of it.at })

-- a rank that was answered so
abbrev pub answered : {A : Type 0} → Program A → ℕ → List ℕ → Reached → Reached
answered program rank reply it = answered_by program rank reply (op_at program rank it.at) it

-- whether the outside may declare a rank
abbrev pub is_declarable : May → Bool
is_declarable Stay = false
is_declarable Die = true
is_declarable Fail = true

abbrev pub may_declare_it : {A : Type 0} → Program A → Result ℕ LineKind → Bool
may_declare_it program (Ok rank) = is_declarable (may_at program rank)
may_declare_it program (Err kind) = false

-- whether a caller is this rank
abbrev pub is_caller : ℕ → Option ℕ → Bool
is_caller rank None = false
is_caller rank (Some caller) = caller == rank

-- whether a caller is one of so many ranks
abbrev pub is_of_ranks : ℕ → Option ℕ → Bool
is_of_ranks ranks None = false
is_of_ranks ranks (Some caller) = nat_lt caller ranks

-- whether a rank stands before the declaration of this one
abbrev pub stands_before : {A : Type 0} → Program A → ℕ → List ℕ → Reached → Bool
stands_before program rank whom it =
    if it.is_calling then false else (if runs it.fate then declares (op_at program rank it.at) whom else false)

-- whether the outside may declare this rank, after so many failures
abbrev pub may_fail : {A : Type 0} → Program A → List ℕ → Reached → Bool
may_fail program whom it = if nat_lt it.failures program.most then may_declare_it program (read_number whom) else false

-- whether a declaration by this caller fits: the rank's own program stands before it; another's program speaks for itself; the outside may declare that rank
abbrev pub may_declare : {A : Type 0} → Program A → ℕ → Option ℕ → List ℕ → Reached → Bool
may_declare program rank caller whom it =
    if is_caller rank caller then stands_before program rank whom it
    else (if is_of_ranks program.limits.ranks caller then true else may_fail program whom it)

-- a declaration was called: `fail WHOM`
abbrev pub declared : {A : Type 0} → Program A → List ℕ → ℕ → List ℕ → Reached → Reached
declared program callers rank whom it =
    record it { fits = if may_declare program rank (slice_get callers it.called) whom it then it.fits else false }

-- a declaration was answered: that of this rank, where it is the one who declared
abbrev pub declaration_answered : {A : Type 0} → Program A → List ℕ → ℕ → List ℕ → Reached → Reached
declaration_answered program callers rank reply it =
    let further = record it { called = next_of it.called } in
    if (if is_caller rank (slice_get callers it.called) then runs it.fate else false) then answered program rank reply further else further

-- whether a rank that is declared makes no step any more
abbrev pub dies : May → Bool
dies Stay = false
dies Die = true
dies Fail = false

-- somebody was declared failed: this rank, or another
abbrev pub failed : {A : Type 0} → Program A → ℕ → List ℕ → Reached → Reached
failed program rank whom it =
    let further = record it { failures = next_of it.failures } in
    if (if is_number whom rank then (if dies (may_at program rank) then runs it.fate else false) else false) then record further { fate = Died } else further

-- the caller's line of a call, behind the word `call`
abbrev pub takes_call : {A : Type 0} → Program A → List ℕ → ℕ → List ℕ → Reached → Reached
takes_call program callers rank text it =
    let verb = (first_word text).0 in
    let fields = text_behind (first_word text).1 in
    if bytes_eq verb (codes "fail") then declared program callers rank fields it
    else (if is_number (first_word fields).0 rank then begun program rank text it else it)

-- the line of a reply, behind the word `reply`: the caller, a point, and the reply
abbrev pub takes_reply : {A : Type 0} → Program A → List ℕ → ℕ → List ℕ → Reached → Reached
takes_reply program callers rank fields it =
    let by = (first_word fields).0 in
    let reply = text_behind (first_word (text_behind (first_word fields).1)).1 in
    if bytes_eq by (codes "-") then declaration_answered program callers rank reply it
    else (if is_number by rank then answered program rank reply it else it)

-- the line of an event, behind the word `event`: the caller, and the event
abbrev pub takes_event : {A : Type 0} → Program A → ℕ → List ℕ → Reached → Reached
takes_event program rank fields it =
    let event = text_behind (first_word fields).1 in
    if bytes_eq (first_word event).0 (codes "fail") then failed program rank (text_behind (first_word event).1) it else it

-- a line of a trace
abbrev pub takes : {A : Type 0} → Program A → List ℕ → ℕ → List ℕ → Reached → Reached
takes program callers rank line it =
    let word = (first_word line).0 in
    let fields = text_behind (first_word line).1 in
    if bytes_eq word (codes "call") then takes_call program callers rank fields it
    else (if bytes_eq word (codes "reply") then takes_reply program callers rank fields it
    else (if bytes_eq word (codes "event") then takes_event program rank fields it else it))

-- the lines of a trace, one behind another
abbrev pub takes_all : {A : Type 0} → Program A → List ℕ → ℕ → List (List ℕ) → Reached → Reached
takes_all program callers rank [] it = it
takes_all program callers rank (line ∷ lines) it = takes_all program callers rank lines (takes program callers rank line it)

-- a rank before all steps
abbrev pub start : Reached
start = record { fate = Runs; at = 0; current = 0; is_calling = false; last = None; noted = []; called = 0; failures = 0; fits = true }

-- how far a rank has come in a trace
abbrev pub come_in : {A : Type 0} → Program A → List ℕ → List ℕ → ℕ → Reached
come_in program callers trace rank = takes_all program callers rank (lines_from [] trace) (gone_on program rank start)

-- whether a rank is at rest: its program is over, or stands before a wait, or goes round without a call
abbrev pub rests : {A : Type 0} → Program A → ℕ → Reached → Bool
rests program rank it =
    let here = op_at program rank it.at in
    if runs it.fate then (if it.is_calling then false else (if is_wait here then true else calls_nobody here)) else true

-- What became of a rank in a trace, and what it noted; none where a call in it isn't that of its program, or where it isn't at rest at the end,
-- if that is asked for.
abbrev pub row_in : {A : Type 0} → Program A → List ℕ → List ℕ → Bool → ℕ → Option (Fate × List ℕ)
row_in program callers trace at_rest rank =
    let it = come_in program callers trace rank in
    if (if it.fits then (if at_rest then rests program rank it else true) else false) then Some (it.fate, it.noted) else None

-- the first so many ranks
abbrev pub ranks_to : ℕ → List ℕ
ranks_to zero = []
ranks_to (suc n) = ranks_to n ++ n ∷ []

-- the rows of all ranks in a trace are these
abbrev pub AreRows : {A : Type 0} → Program A → List ℕ → List ℕ → Bool → List (Fate × List ℕ) → Type 0
AreRows program callers trace at_rest rows = map Some rows ≡ map (row_in program callers trace at_rest) (ranks_to program.limits.ranks)
