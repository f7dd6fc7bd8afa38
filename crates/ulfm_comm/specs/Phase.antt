-- Where a call of a rank stands between two steps.
use Rattle.std.specs.Prelude.{◌≡◌, ◌⊎◌, ℕ, ◌<◌, ◌≤◌, Bool, true, false, [], Some, None, Option, length, nat_lt, is_some, IsTrue, IsFalse, if◌then◌else◌, ⊤}
use Rattle.std.specs.Prelude.{MatchOption}
use mathlib.Core.List.{IsPrefix}
use Rattle.ulfm_model.specs.declared.call.Call.TheVariants as call
use Rattle.ulfm_model.specs.declared.{call.Call.{Call}, event.Caller.TheVariants.{Rank}, reply.Reply.{Reply}}
use Rattle.ulfm_model.specs.{Answers.{traits_of}, History.{History, failures}, Records.{Fits, Held, Record}, Runs.{Did}, Terms.{comm_of}}
use Rattle.ulfm_model.specs.Blocks.{IsSide}
use Rattle.ulfm_words.specs.Steps.{Sight, view_at}
use Rattle.ulfm_steps.specs.{Arriving.{AtArrival}, Blocks.{HoldsFirst, HoldsHalf}, Looks.{LookIs}, ReadsOn.{AtFailure}, Settles.{IsSpreadIn}}
use Rattle.ulfm_comm.specs.Local.{Local, frame_of, local, moment_of}
use Rattle.ulfm_comm.specs.{Calls.{HasReplied}, Ends.{IsRefusedAgain}, Polls.{PendsIn}, Look.{HasLooked}, Exchange.{StartsWith}}
use Rattle.ulfm_comm.specs.Prepared.{HasPlaces, Prepared}
use Rattle.ulfm_comm.specs.{Agreement.{IsMarking, IsPeeking, IsReading}, Spawning.{HasReadMask, IsSpawning, sought}, Barrier.{IsWaiting, IsChecking}}
use Rattle.ulfm_comm.specs.declared.{phases.phase.Next.{Next}, phases.phase.Next.TheVariants.{Goes, Ends}, phases.phase.Phase.{Phase}}
use Rattle.ulfm_model.specs.declared.step_name.StepName.{StepName}
use Rattle.ulfm_comm.specs.declared.phases.phase.Phase.TheVariants.{Over, Begun, Looking, Spreading, Settling, Arriving, Revoking, Asking, Peeking, Marking}
use Rattle.ulfm_comm.specs.declared.phases.phase.Phase.TheVariants.{Reading, ReadingOn, Spawning, Waiting, Checking}
use Rattle.ulfm_model.specs.declared.step_name.StepName.TheVariants as step

-- a call under way: what is asked, what it does next, and what is prepared for a communicator that it makes
pub record UnderWay (P : Type 0) : Type 0 where
  pub asked : Call P
  pub phase : Phase P
  pub prepared : Prepared

abbrev pub under_way : {P : Type 0} → Call P → Phase P → Prepared → UnderWay P
under_way asked phase prepared = record { asked = asked; phase = phase; prepared = prepared }

-- the name of the next step
abbrev pub next_step : {P : Type 0} → Phase P → Option StepName
next_step Over = None
next_step Begun = Some step.List
next_step Looking = Some step.List
next_step (Spreading request offer) = Some step.Wing
next_step (Settling request offer) = Some step.Settle
next_step (Arriving round) = Some step.Arrive
next_step Revoking = Some step.Revoke
next_step Asking = Some step.Revocation
next_step (Peeking peek shrinks) = Some (if is_some peek.first then step.Wing else step.Block)
next_step (Marking marks blocks shrinks) = Some step.Mark
next_step (Reading reading shrinks) =
    Some (if nat_lt reading.read reading.width then (if is_some reading.first then step.Wing else step.Slot)
    else (if reading.winged then step.Cache else step.Wing))
next_step (ReadingOn on made) = Some step.List
next_step (Spawning append context reach) = Some (if append.empty then step.Spawn else step.Comm)
next_step (Waiting arrivals) = Some step.Arrival
next_step (Checking missing) = Some step.Revocation

-- whether a call is in its look
abbrev pub is_looking : {P : Type 0} → Phase P → Bool
is_looking Begun = true
is_looking Looking = true
is_looking _ = false

-- whether a barrier's poll makes its last load next
abbrev pub is_checking : {P : Type 0} → Phase P → Bool
is_checking (Checking missing) = true
is_checking _ = false

-- how far a call is from its reply, by what it does next
abbrev pub left : {P : Type 0} → Phase P → ℕ
left Over = 0
left Begun = 9
left Looking = 8
left (Spreading request offer) = 2
left (Settling request offer) = 1
left (Arriving round) = 1
left Revoking = 1
left Asking = 1
left (Peeking peek shrinks) = 7
left (Marking marks blocks shrinks) = 6
left (Reading reading shrinks) = 5
left (ReadingOn on made) = 4
left (Spawning append context reach) = 3
left (Waiting arrivals) = 2
left (Checking missing) = 1

-- it comes nearer than that
abbrev pub NextBelow : {P : Type 0} → ℕ → Next P → Type 0
NextBelow n (Goes next) = left next < n
NextBelow n (Ends reply) = ⊤

-- it comes nearer
abbrev pub IsFurther : {P : Type 0} → Phase P → Next P → Type 0
IsFurther phase next = NextBelow (left phase) next

-- a call doesn't come back to its look
abbrev pub IsPast : {P : Type 0} → Next P → Type 0
IsPast (Goes next) = is_looking next ≡ false
IsPast (Ends reply) = ⊤

-- whether a call reads on for a decided shrink, or looks for its communicator
abbrev pub is_making : {P : Type 0} → Phase P → Bool
is_making (ReadingOn on made) = true
is_making (Spawning append context reach) = true
is_making _ = false

-- it does, or is answered
abbrev pub IsMaking : {P : Type 0} → Next P → Type 0
IsMaking (Goes next) = is_making next ≡ true
IsMaking (Ends reply) = ⊤

-- it goes on, behind its look
abbrev pub GoesOn : {P : Type 0} → Next P → Type 0
GoesOn (Goes next) = is_looking next ≡ false
GoesOn (Ends reply) = ⊥

-- What a phase leads to: that in which a barrier's arrivals are read to no reply; those that come by a decided shrink's communicator to
-- no other; and none behind the look back to it.
abbrev pub LeadsTo : {P : Type 0} → Phase P → Next P → Type 0
LeadsTo Begun next = ⊤
LeadsTo Looking next = ⊤
LeadsTo (ReadingOn on made) next = IsMaking next
LeadsTo (Spawning append context reach) next = IsMaking next
LeadsTo (Waiting arrivals) next = GoesOn next
LeadsTo _ next = IsPast next

-- the reply, if the call ends
abbrev pub reply_in : {P : Type 0} → Next P → Option (Reply P)
reply_in (Goes phase) = None
reply_in (Ends reply) = Some reply

-- what comes next, by the reply, if there is one
abbrev pub next_of : {P : Type 0} → Option (Reply P) → Phase P → Next P
next_of None phase = Goes phase
next_of (Some reply) phase = Ends reply

-- where a call stands that goes on with this phase
abbrev pub StandsAt : {P : Type 0} → (P → P → P) → Bool → Call P → Local P → Phase P → Prepared → Local P → Type 0
StandsAt meld alone asked start Over prepared now =
    IsTrue start.own.refused × (now.own ≡ start.own) × Did alone [] start.view.pass.seen now.view.pass.seen
StandsAt meld alone asked start Begun prepared now =
    IsFalse start.own.refused × (now.own ≡ start.own) × Did alone [] start.view.pass.seen now.view.pass.seen
StandsAt meld alone asked start Looking prepared now =
    IsFalse start.own.refused × (now.own ≡ record start.own { seen = now.own.seen }) × Did alone [] start.view.pass.seen now.view.pass.seen
    × LookIs start.view.words.limits false now.own.seen now.view.pass.seen
StandsAt meld alone asked start (Spreading request offer) prepared now =
    (p : HasLooked (frame_of meld alone start) asked (moment_of start) (moment_of now)) × StartsWith asked start.own p.x request offer
StandsAt meld alone asked start (Settling request offer) prepared now =
    (p : HasLooked (frame_of meld alone start) asked (moment_of start) (moment_of now)) × StartsWith asked start.own p.x request offer
    × IsSpreadIn now.view p.x.comm p.x.next_agreement now.own.number offer
StandsAt meld alone asked start (Arriving round) prepared now =
    (p : HasLooked (frame_of meld alone start) asked (moment_of start) (moment_of now))
    × (asked ≡ call.Barrier start.own.number (comm_of asked)) × (round ≡ p.x.next_barrier)
StandsAt meld alone asked start Revoking prepared now =
    HasLooked (frame_of meld alone start) asked (moment_of start) (moment_of now) × (asked ≡ call.Revoke start.own.number (comm_of asked))
StandsAt meld alone asked start Asking prepared now =
    HasLooked (frame_of meld alone start) asked (moment_of start) (moment_of now) × (asked ≡ call.IsRevoked start.own.number (comm_of asked))
StandsAt meld alone asked start (Peeking peek shrinks) prepared now =
    (asked ≡ call.Poll start.own.number (comm_of asked))
    × (p : IsPeeking (frame_of meld alone start) (comm_of asked) shrinks peek (moment_of start) (moment_of now)) × IsSide peek.side p.x.group
    × HoldsFirst meld now.view peek
StandsAt meld alone asked start (Marking marks blocks shrinks) prepared now =
    (asked ≡ call.Poll start.own.number (comm_of asked))
    × (p : IsMarking (frame_of meld alone start) (comm_of asked) shrinks marks blocks (moment_of start) (moment_of now))
    × (marks.next < length (failures p.since.look))
StandsAt meld alone asked start (Reading reading shrinks) prepared now =
    (asked ≡ call.Poll start.own.number (comm_of asked))
    × (p : IsReading (frame_of meld alone start) (comm_of asked) shrinks reading (moment_of start) (moment_of now))
    × HoldsHalf now.view p.x.group reading
StandsAt meld alone asked start (ReadingOn on made) prepared now =
    (asked ≡ call.Poll start.own.number (comm_of asked)) × (x : Held)
    × HasReadMask (frame_of meld alone start) (comm_of asked) made x (moment_of start) (moment_of now)
    × AtFailure x.group made.count on now.own.seen × (on.found < made.count)
StandsAt meld alone asked start (Spawning append context reach) prepared now =
    (asked ≡ call.Poll start.own.number (comm_of asked))
    × IsSpawning (frame_of meld alone start) (comm_of asked) append (sought context reach prepared.members) (moment_of start) (moment_of now)
    × HasPlaces now.own.held prepared.places
StandsAt meld alone asked start (Waiting arrivals) prepared now =
    (asked ≡ call.Poll start.own.number (comm_of asked)) × (arrivals.comm ≡ comm_of asked) × (x : Held)
    × (p : IsWaiting (frame_of meld alone start) (comm_of asked) arrivals.round x (moment_of start) (moment_of now))
    × AtArrival x.group now.own.seen arrivals now.view.pass.seen
StandsAt {P} meld alone asked start (Checking missing) prepared now =
    (asked ≡ call.Poll start.own.number (comm_of asked)) × (earlier : History P)
    × IsChecking (frame_of meld alone start) (comm_of asked) missing earlier (moment_of start) (moment_of now)

-- A call that began with this record, and when this was seen, stands here now.
pub record Stands {P : Type 0} (meld : P → P → P) (alone : Bool) (start : Local P) (doing : UnderWay P) (now : Local P) : Type 0 where
  pub fits : Fits meld start.view.words.limits start.view.pass.seen start.own
  pub mine : (traits_of doing.asked).by ≡ Rank start.own.number
  pub onward : start.view.pass.steps ≤ now.view.pass.steps
  pub at : StandsAt meld alone doing.asked start doing.phase doing.prepared now

-- since then there were others' events alone
pub record Idles {P : Type 0} (alone : Bool) (old new : Sight P) : Type 0 where
  pub did : Did alone [] old.seen new.seen
  pub onward : old.steps ≤ new.steps

-- .. and what was known to be set still is
pub record Waits {P : Type 0} (alone : Bool) (old new : Sight P) : Type 0 where
  pub did : Did alone [] old.seen new.seen
  pub cached : IsPrefix old.cached new.cached
  pub onward : old.steps ≤ new.steps

-- A call's reply: of a rank that was refused for good before; or as the sequential object answers, or for want of memory. A
-- pending agreement ends in a load that found a member missing.
pub record Answered {P : Type 0} (meld : P → P → P) (alone : Bool) (asked : Call P) (start : Local P) (reply : Reply P) (new : Local P) : Type 0 where
  pub ends : (IsRefusedAgain start.own reply new.own × Idles alone start.view.pass new.view.pass) ⊎ HasReplied meld alone asked start reply new
  pub pending : PendsIn meld alone asked start reply new

-- what comes next: further steps, or the reply
abbrev pub NextIs : {P : Type 0} → (P → P → P) → Bool → Call P → Local P → Next P → Prepared → Local P → Type 0
NextIs meld alone asked start (Goes phase) prepared now = Stands meld alone start (under_way asked phase prepared) now
NextIs meld alone asked start (Ends reply) prepared now = Answered meld alone asked start reply now

-- one step leads on from where a call stood, also where nobody else steps
abbrev pub Turns : {P : Type 0} → (P → P → P) → Bool → UnderWay P → Local P → Next P → Prepared → Local P → Type 0
Turns {P} meld quiet doing now next left new =
    (alone : Bool) → (IsTrue alone → IsTrue quiet) → (old : Record) → (before : Sight P)
    → Stands meld alone (local old (view_at now.view.words before)) doing now
    → NextIs meld alone doing.asked (local old (view_at now.view.words before)) next left new

-- a call stands so, whenever it began
abbrev pub StillStands : {P : Type 0} → (P → P → P) → UnderWay P → Local P → Type 0
StillStands {P} meld doing now = (old : Record) × (before : Sight P) × Stands meld false (local old (view_at now.view.words before)) doing now

-- a call may take its next step: it began at some time, stood on its way at some later one, and since then there were others' events alone
abbrev pub MayStep : {P : Type 0} → (P → P → P) → UnderWay P → Local P → Type 0
MayStep {P} meld doing now =
    (old : Record) × (before : Sight P) × (stood : Sight P)
    × Stands meld false (local old (view_at now.view.words before)) doing (local now.own (view_at now.view.words stood)) × Waits false stood now.view.pass

-- what comes of a step, whenever its call began and wherever it stood since: it stands on its way still, or is answered
abbrev pub StandsOrEnds : {P : Type 0} → (P → P → P) → Bool → UnderWay P → Local P → Option (Reply P) → UnderWay P → Local P → Type 0
StandsOrEnds {P} meld quiet was now reply is new =
    (alone : Bool) → (IsTrue alone → IsTrue quiet) → (old : Record) → (before : Sight P) → (stood : Sight P)
    → Stands meld alone (local old (view_at now.view.words before)) was (local now.own (view_at now.view.words stood)) → Waits alone stood now.view.pass
    → MatchOption reply (Stands meld alone (local old (view_at now.view.words before)) is new)
    (λ answer. Answered meld alone was.asked (local old (view_at now.view.words before)) answer new)
