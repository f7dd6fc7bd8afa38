-- What running a script of single steps writes where a rank is declared failed in between: the text of a legal trace that follows the script
-- but for that declaration.
use Rattle.std.specs.Prelude.{◌≡◌, ◌⊎◌, ℕ, ◌+◌, ◌-◌, ◌≤◌, ◌<◌, Bool, true, false, ⊤, List, [], ◌∷◌, ◌++◌, length, min, option_map, Option, Some, None}
use Rattle.ulfm_laws.specs.{Flags.{flag_meld}, declared.flag_and.FlagAnd.{FlagAnd}}
use Rattle.ulfm_model.specs.declared.{call.Call.{Call}, event.Caller.{Caller}, limits.Limits.{Limits}, step_name.StepName.{StepName}}
use Rattle.ulfm_model.specs.Answers.{traits_of}
use Rattle.ulfm_script.specs.declared.header_kind.HeaderKind.TheVariants.{Steps}
use Rattle.ulfm_script.specs.declared.line_kind.LineKind.{LineKind}
use Rattle.ulfm_script.specs.declared.line_kind.LineKind.TheVariants.{Open}
use Rattle.ulfm_script.specs.{Ends.{HasRunAll, KnownText}, Headers.{heading_of}, Scripts.{Language}}
use Rattle.std.specs.Io.KnownBytes.{Appends}
use Rattle.ulfm_model.specs.declared.{line.Line.{Line}, step_line.StepLine.TheVariants.{Before, Called, Failed, Finished, Stepped}}
use Rattle.ulfm_model.specs.{Follows.{Follows, IsPiece}, Traces.{IsLegalTrace, IsOpen, Told, nothing, said_by}}
use Rattle.ulfm_lines.specs.{LineTexts.{lines_text}, StepLines.{ScriptStep, step_line_of}, Stepped.{IsOpenCall, TraceState}}
use Rattle.ulfm_lines.specs.{Progress.{Progress}, Walked.{IsCountOf, IsTaken}}
use Rattle.ulfm_lines.specs.declared.step_machine.{Reach.{Reach}, Taken.{Taken}, Taken.TheVariants.{Open as IsOpenStill, Run}}
use Rattle.ulfm_run.specs.StepScripts.{trace_text}
use Rattle.ulfm_run.specs.declared.{failing.FailingLines.{FailingLines}, plan.Failing.{Failing}}

-- lines of a trace
abbrev pub Lines : Type 0
Lines = List (Told FlagAnd)

-- how many events of ranks a line tells
abbrev pub ranks_event : Line FlagAnd → ℕ
ranks_event (Line.Happened (Caller.Rank r) (Some event)) = 1
ranks_event _ = 0

-- how many events of ranks lines tell
abbrev pub ranks_events : Lines → ℕ
ranks_events [] = 0
ranks_events (told ∷ rest) = ranks_event told.line + ranks_events rest

-- A trace, and what is left of it without the lines of a whole declaration of rank r right behind step `at` of so many: before them come no more
-- events of ranks than steps, and behind them no more than further steps.
pub record LeavesOut (limits : Limits) (r at steps : ℕ) (trace rest : Lines) : Type 0 where
  pub before : Lines
  pub declaration : Lines
  pub behind : Lines
  pub trace_is : trace ≡ before ++ (declaration ++ behind)
  pub rest_is : rest ≡ before ++ behind
  pub declares : IsPiece (nothing limits) (Failed r) declaration
  pub few_before : ranks_events before ≤ at
  pub few_behind : at + ranks_events behind ≤ steps

-- nothing is left out of a trace with no more events of ranks than steps
pub record LeavesAll (steps : ℕ) (trace rest : Lines) : Type 0 where
  pub same : trace ≡ rest
  pub few : ranks_events trace ≤ steps

-- the declaration behind step `at` is left out; or there is none, since fewer steps were made
abbrev pub LeavesDue : Limits → ℕ → ℕ → ℕ → Lines → Lines → Type 0
LeavesDue limits r at steps trace rest = ((steps < at) × LeavesAll steps trace rest) ⊎ LeavesOut limits r at steps trace rest

-- a legal trace of so many steps: this number is theirs, or the greatest that there is, and the trace has no more events of ranks
pub record IsCounted (limits : Limits) (number : ℕ) (trace : Lines) : Type 0 where
  pub steps : ℕ
  pub legal : IsLegalTrace flag_meld limits trace
  pub number_is : IsCountOf steps number
  pub few : ranks_events trace ≤ number

-- The text of a legal trace that follows these lines of a script, but for one whole declaration of rank r right behind step `at`, or for nothing,
-- where fewer steps were made. This number is that of the steps, or the greatest that there is; the trace has no more events of ranks.
pub record FailsAfter (at r number : ℕ) (limits : Limits) (lines : List ScriptStep) (out : List ℕ) : Type 0 where
  pub trace : Lines
  pub rest : Lines
  pub counted : IsCounted limits number trace
  pub left_out : LeavesDue limits r at counted.steps trace rest
  pub follows : Follows (nothing limits) lines rest
  pub out_is : out ≡ trace_text limits trace

-- the same for some rank that a script can name, behind some step
abbrev pub FailsSomewhere : Limits → List ScriptStep → List ℕ → Type 0
FailsSomewhere limits lines out = (at r number : ℕ) × (r < 1024) × FailsAfter at r number limits lines out

-- the line of this number begins a call of a rank that has one under way in the trace of the lines before it, whose text this is
pub record FindsOpenBehind (limits : Limits) (lines : List ScriptStep) (number : ℕ) (kind : LineKind) (out : List ℕ) : Type 0 where
  pub first : List ScriptStep
  pub asked : Call FlagAnd
  pub padded : Bool
  pub behind : List ScriptStep
  pub kind_is : kind ≡ Open
  pub lines_are : lines ≡ first ++ Called asked padded ∷ behind
  pub number_is : number ≡ length first + 2
  pub at : ℕ
  pub r : ℕ
  pub made : ℕ
  pub fails : FailsAfter at r made limits first out
  pub is_open : IsOpen (said_by (nothing limits) fails.trace) (traits_of asked).by

-- scripts of single steps, with a rank that is declared in between
abbrev pub failing_scripts : Language
failing_scripts =
    record { Item = ScriptStep; heading = heading_of Steps; read = λ version. step_line_of; Prints = FailsSomewhere; Finds = FindsOpenBehind }

-- The script of the reader's whole text was run, which has no fault, and rank r was declared behind step `at`, or the script was too short: what
-- the reader had, what the writer had and has, and the number of steps.
abbrev pub RunsFailing : ℕ → ℕ → ℕ → KnownText → KnownText → KnownText → Type 0
RunsFailing at r number known old new = HasRunAll failing_scripts (λ heading. FailsAfter at r number heading.limits) known (Appends old new)

-- while the declaration is still to come, nothing is left out, and no more steps were made than come before it
abbrev pub LeavesSoFar : Limits → Failing → Bool → ℕ → Lines → Lines → Type 0
LeavesSoFar limits plan true steps trace rest = (steps ≤ plan.at) × LeavesAll steps trace rest
LeavesSoFar limits plan false steps trace rest = LeavesOut limits plan.rank plan.at steps trace rest

-- The state of an engine that runs such lines: what its machine says of a trace, the declaration that was planned and whether it is still to come,
-- the number of steps that was counted, and the text that was told last.
pub record EngineState : Type 1 where
  pub Says : TraceState → Type 0
  pub plan : Failing
  pub waits : Bool
  pub made : ℕ
  pub text : List ℕ

-- the state of this engine, by what its machine says
abbrev pub state_of : {M A : Type 0} → (M → TraceState → Type 0) → FailingLines M A → EngineState
state_of Stands it =
    record { Says = Stands it.machine; plan = it.plan; waits = it.waits; made = it.made; text = it.teller.text.items }

-- Lines that the machine stands for, and what is left of them without the declaration that was planned, if it isn't still to come. So many steps
-- were made, and this was counted.
pub record StandsSoFar (now : EngineState) (limits : Limits) (trace rest : Lines) : Type 0 where
  pub counted : IsCounted limits now.made trace
  pub left_out : LeavesSoFar limits now.plan now.waits counted.steps trace rest
  pub says : now.Says (said_by (nothing limits) trace)

-- the same, where the declaration isn't due
pub record RestsAt (now : EngineState) (limits : Limits) (trace rest : Lines) : Type 0 where
  pub stands : StandsSoFar now limits trace rest
  pub early : now.waits ≡ true → stands.counted.steps < now.plan.at
  pub left_out : LeavesDue limits now.plan.rank now.plan.at stands.counted.steps trace rest

-- the lines of a script were run by this plan, and this was told
pub record HasFailed (plan : Failing) (now : EngineState) (limits : Limits) (lines : List ScriptStep) (out : List ℕ) : Type 0 where
  pub plan_is : now.plan ≡ plan
  pub trace : Lines
  pub rest : Lines
  pub rests : RestsAt now limits trace rest
  pub follows : Follows (nothing limits) lines rest
  pub out_is : out ≡ trace_text limits trace

-- what was told then is of lines that were run
abbrev pub fails_after : {plan : Failing} {now : EngineState} {limits : Limits} {lines : List ScriptStep} {out : List ℕ} → HasFailed plan now limits lines out
    → FailsAfter now.plan.at now.plan.rank now.made limits lines out
fails_after h = record {
  trace = h.trace;
  rest = h.rest;
  counted = h.rests.stands.counted;
  left_out = h.rests.left_out;
  follows = h.follows;
  out_is = h.out_is;
}

-- at most so many steps, and no more than before
abbrev pub fewer : ℕ → Option ℕ → ℕ
fewer left None = left
fewer left (Some most) = min most left

abbrev pub up_to : ℕ → Reach → Reach
up_to left reach = record { most = Some (fewer left reach.most); name = reach.name }

-- what is left of a reach behind so many steps
abbrev pub behind_of : ℕ → Reach → Reach
behind_of made reach = record { most = option_map (λ most. most - made) reach.most; name = reach.name }

-- the declaration was due, and was made and told; or it wasn't due
abbrev pub DeclaresIfDue : EngineState → EngineState → Limits → Lines → Lines → Bool → Type 0
DeclaresIfDue old new limits trace rest true =
    (new.waits ≡ false) × (declaration : Lines) × IsPiece (nothing limits) (Failed new.plan.rank) declaration
    × RestsAt new limits (trace ++ declaration) rest × (new.text ≡ old.text ++ lines_text declaration)
DeclaresIfDue old new limits trace rest false = RestsAt new limits trace rest × (new.text ≡ old.text)

-- Steps of rank q's call were told as far as they are taken, with the declaration, if it was due in between.
pub record TellsWalk (old new : EngineState) (limits : Limits) (trace rest : Lines) (q : ℕ) (reach : Reach) : Type 0 where
  pub whole : Lines
  pub piece : Lines
  pub rests : RestsAt new limits (trace ++ whole) (rest ++ piece)
  pub taken : IsTaken (said_by (nothing limits) trace) q reach piece
  pub told : new.text ≡ old.text ++ lines_text whole

-- a line of a script was run and told, with the declaration, if it was due in between
pub record RunsStep (old new : EngineState) (limits : Limits) (trace rest : Lines) (step : ScriptStep) : Type 0 where
  pub whole : Lines
  pub piece : Lines
  pub rests : RestsAt new limits (trace ++ whole) (rest ++ piece)
  pub is_piece : IsPiece (said_by (nothing limits) trace) step piece
  pub told : new.text ≡ old.text ++ lines_text whole

-- a line was run; or its call is of a rank that has one under way, and nothing was told
abbrev pub TakesStepLine : EngineState → EngineState → Limits → Lines → Lines → ScriptStep → Taken → Type 0
TakesStepLine old new limits trace rest step Run = RunsStep old new limits trace rest step
TakesStepLine old new limits trace rest step IsOpenStill = IsOpenCall (said_by (nothing limits) trace) step × (new.text ≡ old.text)

-- A call was taken as far as is said, where so many steps were counted before and are counted now: it is over, or none was under way; or so many
-- were made, or its next step has the name.
abbrev pub ComesFar : Reach → ℕ → ℕ → Option StepName → Type 0
ComesFar reach old new next =
    (next ≡ None) ⊎ ((most : ℕ) × (reach.most ≡ Some most) × IsCountOf (old + most) new) ⊎ ((name : StepName) × (reach.name ≡ Some name) × (next ≡ Some name))

-- The steps that a machine has made meanwhile are counted: so many were counted before, and are counted now.
abbrev pub CountsOn : Progress → Progress → ℕ → ℕ → Type 0
CountsOn was now old new =
    (made : ℕ) × (now.steps ≡ was.steps + made) × ((steps : ℕ) → IsCountOf steps old → IsCountOf (steps + made) new)

-- so it is with each line of a script but those that declare a rank, whose steps aren't counted
abbrev pub CountsAsSaid : Progress → Progress → ℕ → ℕ → ScriptStep → Type 0
CountsAsSaid was now old new (Failed r) = new ≡ old
CountsAsSaid was now old new _ = CountsOn was now old new

-- a script's line that takes steps of a call takes them as far as it says
abbrev pub ComesAsSaid : Progress → ℕ → ℕ → ScriptStep → Type 0
ComesAsSaid now old new (Stepped r count) = (now.next r ≡ None) ⊎ IsCountOf (old + count) new
ComesAsSaid now old new (Before r name) = (now.next r ≡ None) ⊎ (now.next r ≡ Some name)
ComesAsSaid now old new (Finished r) = now.next r ≡ None
ComesAsSaid now old new _ = ⊤
