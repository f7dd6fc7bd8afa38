-- Ranks whose calls are taken step by step: where the lines so far say that one sits, and what its call's begin and each of its steps tell.
use Rattle.std.specs.Prelude.{◌≡◌, ◌⊎◌, ℕ, ◌<◌, ◌≤◌, ◌&&◌, ◌||◌, not, Bool, false, ⊤, List, [], ◌∷◌, ◌++◌, take, Option, Some, None, is_some, IsTrue}
use Rattle.std.specs.List.{AllByRecursion}
use mathlib.Core.List.{IsPrefix}
use Rattle.ulfm_model.specs.declared.{call.Call.{Call}, event.Caller.{Caller}, event.Caller.TheVariants.{Rank}, event.Event.{Event}, limits.Limits.{Limits}}
use Rattle.ulfm_model.specs.declared.{reply.Reply.{Reply}, reply.Reply.TheVariants.{FailedGroup, Shrunk}, step_name.StepName.{StepName}}
use Rattle.ulfm_model.specs.{Answers.{comm_of, polled_by}, History.{History, failures, members}}
use Rattle.ulfm_model.specs.Records.{Fits, Held, Record, held_at, is_shrink, new_record}
use Rattle.ulfm_words.specs.Steps.{IsView, Sight, View, Over, view_at, over}
use Rattle.ulfm_comm.specs.{Calls.{wants_memory}, Counts.{Counted}, Phase.{UnderWay, is_looking, next_step}, StepsLeft.{MakesStep, steps_left}}
use Rattle.ulfm_comm.specs.declared.phases.phase.Phase.{Phase}
use Rattle.ulfm_model.specs.declared.line.{Line.{Line}, Line.TheVariants.{Happened, Looked}}
use Rattle.ulfm_model.specs.Follows.{AreOf, EndsInReply, IsAtOnce, called, steps_in, told_by}
use Rattle.ulfm_model.specs.Traces.{AreLegalAfter, Told, Traced, listed, nothing, said_by, same_caller}
use Rattle.ulfm_lines.specs.Callers.{line_by}
use Rattle.ulfm_run.specs.declared.told.{Answer.{Answer}, StepTold.{StepTold}}
use Rattle.ulfm_run.specs.Stepping.{HasBegun, HasCalled, IsIdle, reply_told}

-- a rank; its call that is under way, if there is one; and how many events there were when its last step went on
pub record Seated (P : Type 0) : Type 0 where
  pub own : Record
  pub call : Option (UnderWay P)
  pub found : ℕ

-- where a call stands that is under way, if one is
abbrev pub way_in : {P : Type 0} → Option (Counted P) → Option (UnderWay P)
way_in None = None
way_in (Some doing) = Some doing.way

-- the communicator of a call that is under way; 0 where none is
abbrev pub comm_in : {P : Type 0} → Option (UnderWay P) → ℕ
comm_in None = 0
comm_in (Some doing) = comm_of doing.asked

-- the name of its next step
abbrev pub next_in : {P : Type 0} → Option (UnderWay P) → Option StepName
next_in None = None
next_in (Some doing) = next_step doing.phase

-- what it asks
abbrev pub asked_in : {P : Type 0} → Option (UnderWay P) → Option (Call P)
asked_in None = None
asked_in (Some doing) = Some doing.asked

-- how many steps it makes from here on, at most
abbrev pub call_steps_left : {P : Type 0} → Limits → Record → Option (UnderWay P) → ℕ
call_steps_left limits own None = 0
call_steps_left limits own (Some doing) = steps_left limits own doing.asked doing.phase

-- a rank without a call is idle; one with a call is in its look, or behind it
abbrev pub SitsAt : {P : Type 0} → (P → P → P) → Over P → Traced P → Sight P → Record → ℕ → Option (UnderWay P) → Type 0
SitsAt meld name now pass own found None = IsIdle meld name now pass own
SitsAt meld name now pass own found (Some doing) = HasBegun meld name now pass own doing ⊎ HasCalled meld name now pass own found doing

-- whether a step was the end of a look: it was made in the look, and the call is answered, or goes on behind it
abbrev pub has_looked : {P : Type 0} → Bool → Option (Reply P) → Phase P → Bool
has_looked looking result phase = looking && (is_some result || not (is_looking phase))

-- whether a step's reply, if there is one, says that memory ran out
abbrev pub wants_in : {P : Type 0} → Option (Reply P) → Bool
wants_in None = false
wants_in (Some reply) = wants_memory reply

-- what the lines so far say, and what the pass has seen, fit where a rank stands
abbrev pub Sits : {P : Type 0} → (P → P → P) → Over P → Traced P → Sight P → Seated P → Type 0
Sits meld name now pass seat = SitsAt meld name now pass seat.own seat.found seat.call

-- .. what a caller's view is of
abbrev pub SitsIn : {P : Type 0} → (P → P → P) → Traced P → View P → Seated P → Type 0
SitsIn meld now view seat = Sits meld view.words now view.pass seat

-- a line with the ranks that it lists, if there is one
abbrev pub line_piece : {P : Type 0} → Option (Line P) → List ℕ → List (Told P)
line_piece None group = []
line_piece (Some line) group = record { line = line; group = group } ∷ []

-- the line of a look that has ended in so many failures, if one has
abbrev pub look_piece : {P : Type 0} → ℕ → Option ℕ → List (Told P)
look_piece r None = []
look_piece r (Some count) = record { line = Looked r count; group = [] } ∷ []

-- the line of an event of a caller, if there is one
abbrev pub event_by : {P : Type 0} → Caller → Option (Event P) → List (Told P)
event_by by None = []
event_by by (Some event) = record { line = Happened by (Some event); group = [] } ∷ []

-- the line of an event of a rank, if there is one
abbrev pub event_piece : {P : Type 0} → ℕ → Option (Event P) → List (Told P)
event_piece r event = event_by (Rank r) event

-- the line of a reply, if there is one, with the ranks that it lists
abbrev pub reply_piece : {P : Type 0} → ℕ → List ℕ → Option (Answer P) → List (Told P)
reply_piece r group None = []
reply_piece r group (Some answer) = reply_told r answer.point group answer.reply ∷ []

-- the lines of one step of rank r
abbrev pub piece_of : {P : Type 0} → ℕ → StepTold P → List ℕ → List (Told P)
piece_of r told group = look_piece r told.look ++ (event_piece r told.event ++ reply_piece r group told.reply)

-- what a step adds to what was seen
abbrev pub entries_of : {P : Type 0} → ℕ → Option (Event P) → History P
entries_of r None = []
entries_of r (Some event) = record { by = Rank r; event = event } ∷ []

-- the ranks that a reply's line lists, where so much was seen at the step and the call is on communicator c
abbrev pub group_in : {P : Type 0} → ℕ → History P → ℕ → Option (Answer P) → List ℕ
group_in ranks h c None = []
group_in ranks h c (Some answer) = listed ranks (take answer.point h) c answer.reply

-- a rank holds a communicator with the members that the history gives it
pub record HoldsGroup {P : Type 0} (ranks : ℕ) (h : History P) (c : ℕ) (own : Record) : Type 0 where
  pub x : Held
  pub held : held_at own c ≡ Some x
  pub group : x.group ≡ members ranks h c

-- a rank knows the ranks that a reply of its own lists
abbrev pub MayList : {P : Type 0} → ℕ → History P → ℕ → Reply P → Record → Type 0
MayList ranks h c (Shrunk j context size) own = HoldsGroup ranks h j own
MayList ranks h c (FailedGroup count) own = HoldsGroup ranks h c own × (own.seen ≡ failures h)
MayList ranks h c _ own = ⊤

-- the call goes on, and fewer steps are left
abbrev pub GoesNearer : {P : Type 0} → Limits → Seated P → Seated P → Type 0
GoesNearer limits old new = IsTrue (is_some new.call) × (call_steps_left limits new.own new.call < call_steps_left limits old.own old.call)

-- the call is over, the piece ends in its reply, and the rank knows whom that lists
pub record CallEnds {P : Type 0} (ranks : ℕ) (h : History P) (c : ℕ) (answer : Answer P) (piece : List (Told P)) (new : Seated P) : Type 0 where
  pub over : new.call ≡ None
  pub in_reply : EndsInReply piece
  pub may_list : MayList ranks (take answer.point h) c answer.reply new.own

-- it goes on, or is answered
abbrev pub GoesOrEnds : {P : Type 0} → Limits → History P → List (Told P) → Seated P → Seated P → Option (Answer P) → Type 0
GoesOrEnds limits h piece old new None = GoesNearer limits old new
GoesOrEnds limits h piece old new (Some answer) = CallEnds limits.ranks h (comm_in old.call) answer piece new

-- no line is told by a step of another name than this, where the line says by which
abbrev pub AreToldBy : {P : Type 0} → Option StepName → List (Told P) → Type 0
AreToldBy next piece = AllByRecursion (λ told. (name : StepName) → told_by told.line ≡ Some name → next ≡ Some name) piece

-- One atomic step of a call, the one that was named, and the lines that it tells: each may come after those before, they are the rank's, at most
-- one is the end of a look or an event, none is told by another step, and afterwards the rank sits as they say. The event is the one that the pass has
-- seen since, and what it knew to be set it still knows. The call is answered, or goes on with fewer steps left.
pub record TellsPiece {P : Type 0} (meld : P → P → P) (name : Over P) (old : Seated P) (before : Sight P) (told : StepTold P) (new : Seated P) (after : Sight P)
    : Type 0 where
  pub number : new.own.number ≡ old.own.number
  pub named : MakesStep (next_in old.call) old.own.number (comm_in old.call) before after
  pub seen : before.seen ++ entries_of old.own.number told.event ≡ after.seen
  pub keeps : IsPrefix before.cached after.cached
  pub piece : List (Told P)
  pub piece_is : piece ≡ piece_of old.own.number told (group_in name.limits.ranks after.seen (comm_in old.call) told.reply)
  pub of : AreOf (Rank old.own.number) piece
  pub few : steps_in piece ≤ 1
  pub by_step : AreToldBy (next_in old.call) piece
  pub legal : (now : Traced P) → Sits meld name now before old → AreLegalAfter meld now piece
  pub sits : (now : Traced P) → Sits meld name now before old → Sits meld name (said_by now piece) after new
  pub next : GoesOrEnds name.limits after.seen piece old new told.reply

-- .. between two views of its caller
abbrev pub TellsPieceIn : {P : Type 0} → (P → P → P) → Seated P → View P → StepTold P → Seated P → View P → Type 0
TellsPieceIn meld old before told new after = TellsPiece meld before.words old before.pass told new after.pass

-- the lines of a call that begins: its own, with its flag spelled so, and that of its reply where it is answered at once
abbrev pub begun_piece : {P : Type 0} → ℕ → Call P → Bool → Option (Answer P) → List (Told P)
begun_piece r asked padded answer = called asked padded ∷ reply_piece r [] answer

-- the call is under way, or answered at once
abbrev pub IsUnderWay : {P : Type 0} → Call P → Seated P → Option (Answer P) → Type 0
IsUnderWay {P} asked new None = (doing : UnderWay P) × (new.call ≡ Some doing) × (doing.asked ≡ asked)
IsUnderWay asked new (Some answer) = new.call ≡ None

-- A call begins, and these are its lines, however its flag is spelled: each may come after those before, and afterwards the rank sits as they say.
-- It is under way, but where the rank was refused for good before: then it is answered at once.
pub record TellsBegin {P : Type 0} (meld : P → P → P) (name : Over P) (old : Seated P) (pass : Sight P) (asked : Call P) (answer : Option (Answer P))
    (new : Seated P) : Type 0 where
  pub number : new.own.number ≡ old.own.number
  pub at_once : IsAtOnce asked (reply_piece old.own.number [] answer)
  pub legal : (now : Traced P) → Sits meld name now pass old → AreLegalAfter meld now (begun_piece old.own.number asked false answer)
  pub sits : (now : Traced P) → Sits meld name now pass old → Sits meld name (said_by now (begun_piece old.own.number asked false answer)) pass new
  pub next : IsUnderWay asked new answer

-- .. in a view of its caller
abbrev pub TellsBeginIn : {P : Type 0} → (P → P → P) → Seated P → View P → Call P → Option (Answer P) → Seated P → Type 0
TellsBeginIn meld old view asked answer new = TellsBegin meld view.words old view.pass asked answer new

-- the call polls a shrink
abbrev pub CallPollsShrink : {P : Type 0} → Record → Option (UnderWay P) → Type 0
CallPollsShrink own None = ⊥
CallPollsShrink own (Some doing) = IsTrue (is_shrink (polled_by own doing.asked))

-- lines of other callers than this
abbrev pub AreOthers : {P : Type 0} → Caller → List (Told P) → Type 0
AreOthers by piece = AllByRecursion (λ told. same_caller (line_by told.line) by ≡ false) piece

-- lines of others, whose events the pass has seen since and which left what it knew to be set, leave a rank where it sits
abbrev pub SeatsLast : {P : Type 0} → (P → P → P) → Type 0
SeatsLast {P} meld =
    (name : Over P) (now : Traced P) (piece : List (Told P)) (pass later : Sight P) (seat : Seated P) → AreOthers (Rank seat.own.number) piece
    → (said_by now piece).history ≡ later.seen → IsView meld (view_at name later) → pass.steps ≤ later.steps → IsPrefix pass.cached later.cached
    → Sits meld name now pass seat → Sits meld name (said_by now piece) later seat

-- where nothing is said yet, and nothing was seen, each new rank of the world sits idle
abbrev pub SeatsBegin : {P : Type 0} → (P → P → P) → Type 0
SeatsBegin {P} meld =
    (name : Over P) (pass : Sight P) (found r : ℕ) → pass.seen ≡ [] → r < name.limits.ranks → Fits meld name.limits [] (new_record name.limits r)
    → Sits meld name (nothing name.limits) pass (record { own = new_record name.limits r; call = None; found = found })
