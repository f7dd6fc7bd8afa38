-- Which traces follow a script of single steps.
use Rattle.std.specs.Prelude.{◌≡◌, ◌≢◌, ◌⊎◌, ℕ, ◌+◌, ◌≤◌, ◌&&◌, Bool, true, false, List, [], ◌∷◌, ◌++◌, length, filter, Option, Some, None, IsTrue}
use Rattle.std.specs.List.{AllByRecursion}
use Rattle.ulfm_model.specs.declared.{call.Call.{Call}, event.Caller.{Caller}, event.Event.{Event}, limits.Limits.{Limits}, reply.Reply.{Reply}}
use Rattle.ulfm_model.specs.declared.step_name.StepName.TheVariants as step
use Rattle.ulfm_model.specs.declared.step_name.StepName.{StepName}
use Rattle.ulfm_model.specs.Answers.{traits_of}
use Rattle.ulfm_model.specs.declared.{line.Line.{Line}, step_line.StepLine.{StepLine}}
use Rattle.ulfm_model.specs.Traces.{AreLegalAfter, IsOpen, Told, Traced, nothing, same_caller, said_by}

-- whether a line is a look, an event or a reply in this caller's name
abbrev pub is_of : {P : Type 0} → Caller → Line P → Bool
is_of by (Line.Called asked padded) = false
is_of by (Line.Looked r count) = same_caller (Caller.Rank r) by
is_of by (Line.Happened other event) = same_caller other by
is_of by (Line.Replied other point reply) = same_caller other by

-- whether a line takes an atomic step of its own: the end of a look, or an event
abbrev pub takes_step : {P : Type 0} → Line P → Bool
takes_step (Line.Looked r count) = true
takes_step (Line.Happened by event) = true
takes_step _ = false

-- so many atomic steps are the fewest that tell these lines
abbrev pub steps_in : {P : Type 0} → List (Told P) → ℕ
steps_in piece = length (filter (λ told. takes_step told.line) piece)

-- the name of the exchange that makes an event in a rank's name; a `spawn` is left open
abbrev pub step_of : {P : Type 0} → Event P → Option StepName
step_of (Event.Settle c k r given) = Some step.Settle
step_of (Event.Mark c k r known) = Some step.Mark
step_of (Event.Arrive c k r) = Some step.Arrive
step_of (Event.Revoke c) = Some step.Revoke
step_of _ = None

-- the name of the atomic step that tells a line, where the line says it: a look ends in a load of the list of failures
abbrev pub told_by : {P : Type 0} → Line P → Option StepName
told_by (Line.Looked r count) = Some step.List
told_by (Line.Happened by (Some event)) = step_of event
told_by _ = None

-- no line is told by a step of this name
abbrev pub NoneBy : {P : Type 0} → StepName → List (Told P) → Type 0
NoneBy name piece = AllByRecursion (λ told. told_by told.line ≢ Some name) piece

-- whether a line is a reply
abbrev pub is_reply : {P : Type 0} → Line P → Bool
is_reply (Line.Replied by point reply) = true
is_reply _ = false

-- lines in this caller's name alone
abbrev pub AreOf : {P : Type 0} → Caller → List (Told P) → Type 0
AreOf by piece = AllByRecursion (λ told. IsTrue (is_of by told.line)) piece

-- the last line is a reply
abbrev pub EndsInReply : {P : Type 0} → List (Told P) → Type 0
EndsInReply {P} piece = (first : List (Told P)) × (last : Told P) × (piece ≡ first ++ last ∷ []) × IsTrue (is_reply last.line)

-- the line of a call that begins, with its flag spelled so
abbrev pub called : {P : Type 0} → Call P → Bool → Told P
called asked padded = record { line = Line.Called asked padded; group = [] }

-- a call that needs no step is answered at once, by one reply in its caller's name
abbrev pub IsAtOnce : {P : Type 0} → Call P → List (Told P) → Type 0
IsAtOnce {P} asked rest =
    (rest ≡ []) ⊎ ((reply : Told P) × (rest ≡ reply ∷ []) × IsTrue (is_reply reply.line && is_of (traits_of asked).by reply.line))

-- the line of the event of a declaration of rank r, where this reply says that its call made it
abbrev pub fail_event : {P : Type 0} → ℕ → Reply P → List (Told P)
fail_event r Reply.Declared = record { line = Line.Happened Caller.Outside (Some (Event.Fail r)); group = [] } ∷ []
fail_event r _ = []

-- the lines of a whole declaration of rank r, which is answered at this point: its call, its event, if the call made it, and its reply
abbrev pub fail_piece : {P : Type 0} → ℕ → ℕ → Reply P → List (Told P)
fail_piece r point reply =
    called (Call.Fail r) false ∷ (fail_event r reply ++ record { line = Line.Replied Caller.Outside point (Some reply); group = [] } ∷ [])

-- The piece of a trace that one line of a script gives, where so much was said before. A call begins, and is spelled as the script spells it; a
-- rank's steps give lines in its name, at most as many looks and events as steps, none by a step of the name before which it stops, and a reply at
-- last where its call is finished; a declaration is whole, with nothing in between.
abbrev pub IsPiece : {P : Type 0} → Traced P → StepLine P → List (Told P) → Type 0
IsPiece {P} now (StepLine.Called asked padded) piece = (rest : List (Told P)) × (piece ≡ called asked padded ∷ rest) × IsAtOnce asked rest
IsPiece now (StepLine.Stepped r count) piece = AreOf (Caller.Rank r) piece × (steps_in piece ≤ count)
IsPiece now (StepLine.Before r name) piece = AreOf (Caller.Rank r) piece × NoneBy name piece
IsPiece now (StepLine.Finished r) piece = AreOf (Caller.Rank r) piece × (IsOpen now (Caller.Rank r) → EndsInReply piece)
IsPiece {P} now (StepLine.Failed r) piece = (point : ℕ) × (reply : Reply P) × (piece ≡ fail_piece r point reply)

-- the trace is one piece for each line of the script
abbrev pub Follows : {P : Type 0} → Traced P → List (StepLine P) → List (Told P) → Type 0
Follows now [] trace = trace ≡ []
Follows {P} now (line ∷ lines) trace =
    (piece rest : List (Told P)) × (trace ≡ piece ++ rest) × IsPiece now line piece × Follows (said_by now piece) lines rest

-- what running these lines says: a legal trace that follows them
pub record Runs {P : Type 0} (meld : P → P → P) (old : Traced P) (lines : List (StepLine P)) (trace : List (Told P)) (new : Traced P) : Type 0 where
  pub legal : AreLegalAfter meld old trace
  pub follows : Follows old lines trace
  pub new_is : new ≡ said_by old trace

-- a script begins a call of a rank that has one under way: the line's number, and what was said before it
pub record FindsOpen {P : Type 0} (meld : P → P → P) (limits : Limits) (lines : List (StepLine P)) (number : ℕ) (trace : List (Told P)) : Type 0 where
  pub first : List (StepLine P)
  pub asked : Call P
  pub padded : Bool
  pub behind : List (StepLine P)
  pub lines_are : lines ≡ first ++ StepLine.Called asked padded ∷ behind
  pub number_is : number ≡ length first + 2
  pub now : Traced P
  pub runs : Runs meld (nothing limits) first trace now
  pub is_open : IsOpen now (traits_of asked).by
