-- How far each caller has come in an explanation: where lines may stand that the log doesn't have, and what an open start may have done.
use Rattle.std.specs.Prelude.{ℕ, ◌==◌, ◌&&◌, Bool, true, false, List, [], ◌∷◌, Option, Some, None, if◌then◌else◌}
use Rattle.ulfm_laws.specs.declared.flag_and.FlagAnd.{FlagAnd}
use Rattle.ulfm_model.specs.declared.call.Call.{Call}
use Rattle.ulfm_model.specs.declared.call.Call.TheVariants as call
use Rattle.ulfm_model.specs.declared.event.Caller.TheVariants.{Outside, Rank}
use Rattle.ulfm_model.specs.declared.event.Event.{Event}
use Rattle.ulfm_model.specs.declared.event.Event.TheVariants as event
use Rattle.ulfm_model.specs.declared.refusal.Refusal.{Refusal}
use Rattle.ulfm_model.specs.declared.refusal.Refusal.TheVariants as refusal
use Rattle.ulfm_model.specs.declared.reply.Reply.{Reply}
use Rattle.ulfm_model.specs.declared.reply.Reply.TheVariants as reply
use Rattle.ulfm_model.specs.declared.line.{Line.{Line}, Line.TheVariants.{Called, Looked, Happened, Replied}}
use Rattle.ulfm_model.specs.Traces.{Told, same_caller}
use Rattle.ulfm_lines.specs.Callers.{line_by}
use Rattle.ulfm_observed.specs.declared.{stages.Aid.{Aid}, stages.Stage.{Stage}, step.Step.{Step}}
use Rattle.ulfm_observed.specs.declared.stages.Stage.TheVariants.{Idle, Under, Acted, Begun, Ending, Gone, Wrong}

-- a line of an explanation: what it tells, and whether the log has it
pub record Shown : Type 0 where
  pub told : Told FlagAnd
  pub logged : Bool

-- a kept line, as these definitions see it
abbrev pub shown_of : {A : Type 0} → Step A → Shown
shown_of step = record { told = record { line = step.line; group = step.group.items }; logged = step.logged }

-- .. and as a line of a trace
abbrev pub told_of : {A : Type 0} → Step A → Told FlagAnd
told_of step = (shown_of step).told

-- the communicator of a start; none of other calls
abbrev pub starts : Call FlagAnd → Option ℕ
starts (call.Agree r c value) = Some c
starts (call.Shrink r c) = Some c
starts (call.Barrier r c) = Some c
starts _ = None

-- the refusals that end a request
abbrev pub ends_refused : Refusal → Bool
ends_refused refusal.Mismatch = true
ends_refused refusal.NoContext = true
ends_refused refusal.NoRoom = true
ends_refused refusal.IsRevoked = true
ends_refused refusal.ProcFailed = true
ends_refused _ = false

-- whether a reply to a poll ends the request
abbrev pub ends : Option (Reply FlagAnd) → Bool
ends (Some (reply.Agreed raised failed value)) = true
ends (Some (reply.Shrunk comm context size)) = true
ends (Some reply.Done) = true
ends (Some (reply.Refused why)) = ends_refused why
ends _ = false

-- whether a reply says that a request is open
abbrev pub says_started : Option (Reply FlagAnd) → Bool
says_started (Some reply.Started) = true
says_started _ = false

-- whether a call polls this communicator
abbrev pub polls : ℕ → Call FlagAnd → Bool
polls c (call.Poll r d) = c == d
polls c _ = false

-- A rank after a call of its own that the log has.
abbrev pub called_stage : Stage → Call FlagAnd → Stage
called_stage Idle asked = Under (starts asked)
called_stage _ asked = Wrong

-- A rank after a reply that the log has: a poll that the log lacks is answered by what ends the request alone.
abbrev pub replied_stage : Stage → Option (Reply FlagAnd) → Stage
replied_stage (Under start) told = Idle
replied_stage (Acted comm) told = Idle
replied_stage Ending told = if ends told then Idle else Wrong
replied_stage _ told = Wrong

-- where a line may stand only if the rank's lines were lost
abbrev pub gone_or_wrong : Bool → Stage
gone_or_wrong lost = if lost then Gone else Wrong

-- a start after a reply that the log lacks
abbrev pub begun_or_gone : Bool → ℕ → Option (Reply FlagAnd) → Stage
begun_or_gone lost comm told = if says_started told then Begun comm else gone_or_wrong lost

-- A rank after a call that the log lacks: the poll behind a start, or any call where its lines were lost.
abbrev pub hidden_call : Bool → Stage → Call FlagAnd → Stage
hidden_call lost (Begun comm) asked = if polls comm asked then Ending else gone_or_wrong lost
hidden_call lost _ asked = gone_or_wrong lost

-- A rank after a reply that the log lacks: that its start is open, or any reply where its lines were lost.
abbrev pub hidden_reply : Bool → Stage → Option (Reply FlagAnd) → Stage
hidden_reply lost (Under (Some comm)) told = begun_or_gone lost comm told
hidden_reply lost (Acted comm) told = begun_or_gone lost comm told
hidden_reply lost _ told = gone_or_wrong lost

-- A rank after an event of its own.
abbrev pub acted_stage : Stage → Stage
acted_stage (Under (Some comm)) = Acted comm
acted_stage stage = stage

-- A rank after a line by it.
abbrev pub own_stage : Bool → Stage → Bool → Line FlagAnd → Stage
own_stage lost stage logged (Called asked padded) = if logged then called_stage stage asked else hidden_call lost stage asked
own_stage lost stage logged (Looked r count) = stage
own_stage lost stage logged (Happened by event) = acted_stage stage
own_stage lost stage logged (Replied by point told) = if logged then replied_stage stage told else hidden_reply lost stage told

-- A rank after a line.
abbrev pub next_stage : ℕ → Bool → Stage → Shown → Stage
next_stage r lost stage shown =
    if same_caller (line_by shown.told.line) (Rank r) then own_stage lost stage shown.logged shown.told.line else stage

-- A rank after lines, from this stage on.
abbrev pub stage_after : ℕ → Bool → Stage → List Shown → Stage
stage_after r lost stage [] = stage
stage_after r lost stage (shown ∷ rest) = stage_after r lost (next_stage r lost stage shown) rest

-- whether a rank may stop there: it went no wrong way, and no open start took effect without `started`, which tells its content
abbrev pub may_stop : Stage → Bool
may_stop Wrong = false
may_stop (Acted comm) = false
may_stop _ = true

-- the rank that a call of the outside is to declare
abbrev pub declares : Call FlagAnd → Option ℕ
declares (call.Fail r) = Some r
declares _ = None

-- whether the call that is open is to declare this rank
abbrev pub asks_for : Option ℕ → ℕ → Bool
asks_for None r = false
asks_for (Some s) r = s == r

-- whether the outside may make an event: a failure, where all are logged only in a call of it; a mark; or a communicator
abbrev pub may_help : Bool → Option ℕ → Option (Event FlagAnd) → Bool
may_help all asked (Some (event.Fail r)) = if all then asks_for asked r else true
may_help all asked (Some (event.Mark c k r known)) = true
may_help all asked (Some (event.Spawn j c k)) = true
may_help all asked _ = false

-- The outside after a line of its own: its calls and replies are logged, and each event is one that it may make.
abbrev pub own_aid : Bool → Aid → Bool → Line FlagAnd → Aid
own_aid all aid logged (Called asked padded) = record { asked = declares asked; fine = aid.fine && logged }
own_aid all aid logged (Looked r count) = aid
own_aid all aid logged (Happened by event) = record { asked = aid.asked; fine = aid.fine && may_help all aid.asked event }
own_aid all aid logged (Replied by point told) = record { asked = None; fine = aid.fine && logged }

-- The outside after a line.
abbrev pub next_aid : Bool → Aid → Shown → Aid
next_aid all aid shown = if same_caller (line_by shown.told.line) Outside then own_aid all aid shown.logged shown.told.line else aid

-- The outside after lines, from this on.
abbrev pub aid_after : Bool → Aid → List Shown → Aid
aid_after all aid [] = aid
aid_after all aid (shown ∷ rest) = aid_after all (next_aid all aid shown) rest
