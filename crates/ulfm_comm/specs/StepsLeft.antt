-- Which atomic step a call makes next, and how many it makes at most.
use Rattle.std.specs.Prelude.{◌≡◌, ℕ, ◌+◌, ◌-◌, ◌*◌, ◌<◌, ◌≤◌, Bool, true, false, List, [], length, filter, max, Option, Some, None, is_some, if◌then◌else◌, ⊤}
use Rattle.ulfm_model.specs.declared.call.Call.TheVariants as call
use Rattle.ulfm_model.specs.declared.{call.Call.{Call}, call.Request.{Request}, call.Request.TheVariants.{Agree, Shrink, Barrier}, limits.Limits.{Limits}}
use Rattle.ulfm_model.specs.declared.place.Place.TheVariants.{List as ListAt, Comm as CommAt, Revoked as RevokedAt, Slot as SlotAt, Arrival as ArrivalAt}
use Rattle.ulfm_model.specs.declared.{block.Side.{Side}, block.Wing.{Wing}}
use Rattle.ulfm_model.specs.{Answers.{refusal_of}, History.{has}, Records.{Held, Record, held_at}}
use Rattle.ulfm_model.specs.Terms.{comm_of, request_of}
use Rattle.ulfm_words.specs.{Steps.{Sight}, declared.step.Site.{Site}}
use Rattle.ulfm_steps.specs.{Appends.{turns_left}, Arriving.{arrivals_left}, Blocks.{block_at, blocks_cost, blocks_left, peeks_left, unread_cost}}
use Rattle.ulfm_steps.specs.{Marks.{marks_left}, Turns.{IsOneStep, IsStepAt}}
use Rattle.ulfm_comm.specs.declared.{phases.phase.Next.{Next}, phases.phase.Next.TheVariants.{Goes, Ends}, phases.phase.Phase.{Phase}}
use Rattle.ulfm_model.specs.declared.step_name.StepName.{StepName}
use Rattle.ulfm_comm.specs.declared.phases.phase.Phase.TheVariants.{Over, Begun, Looking, Spreading, Settling, Arriving, Revoking, Asking, Peeking, Marking}
use Rattle.ulfm_comm.specs.declared.phases.phase.Phase.TheVariants.{Reading, ReadingOn, Spawning, Waiting, Checking}
use Rattle.ulfm_model.specs.declared.step_name.StepName.TheVariants as step

-- A wing of communicator c: of a member's place, or of a block. A member's is set by the member alone.
abbrev pub IsWingOf : ℕ → ℕ → Bool → Wing → Type 0
IsWingOf c r load (Wing.Slot comm k member) = (comm ≡ c) × (load ≡ false → member ≡ r)
IsWingOf c r load (Wing.Block b) = b.comm ≡ c

-- one atomic step of this name, of rank r on communicator c: where it is made, and whether it is a load
abbrev pub IsStepOf : {P : Type 0} → StepName → ℕ → ℕ → Sight P → Sight P → Type 0
IsStepOf step.List r c old new = (i : ℕ) × IsOneStep (ListAt i) true old new
IsStepOf step.Settle r c old new = (k : ℕ) × IsOneStep (SlotAt c k r) false old new
IsStepOf step.Block r c old new = (k : ℕ) × (side : Side) × IsStepAt (Site.Block (block_at c k side)) true old new
IsStepOf step.Wing r c old new = (wing : Wing) × (load : Bool) × IsWingOf c r load wing × IsStepAt (Site.Wing wing) load old new
IsStepOf step.Mark r c old new = (k member : ℕ) × IsOneStep (SlotAt c k member) false old new
IsStepOf step.Slot r c old new = (k member : ℕ) × IsOneStep (SlotAt c k member) true old new
IsStepOf step.Cache r c old new = (k : ℕ) × (side : Side) × IsStepAt (Site.Block (block_at c k side)) false old new
IsStepOf step.Comm r c old new = (j : ℕ) × IsOneStep (CommAt j) true old new
IsStepOf step.Spawn r c old new = (j : ℕ) × IsOneStep (CommAt j) false old new
IsStepOf step.Arrive r c old new = (k : ℕ) × IsOneStep (ArrivalAt c k r) false old new
IsStepOf step.Arrival r c old new = (k member : ℕ) × IsOneStep (ArrivalAt c k member) true old new
IsStepOf step.Revoke r c old new = IsOneStep (RevokedAt c) false old new
IsStepOf step.Revocation r c old new = IsOneStep (RevokedAt c) true old new

-- the step that is named; none where none is
abbrev pub MakesStep : {P : Type 0} → Option StepName → ℕ → ℕ → Sight P → Sight P → Type 0
MakesStep None r c old new = new ≡ old
MakesStep (Some name) r c old new = IsStepOf name r c old new

-- the members of a communicator that is held
abbrev pub group_of : Option Held → List ℕ
group_of None = []
group_of (Some x) = x.group

-- how many steps the poll of a request makes after its look, at most, where the communicator has n members
abbrev pub polling : Limits → ℕ → Option Request → ℕ
polling limits n None = 0
polling limits n (Some (Agree k)) = 5 * n + 4
polling limits n (Some (Shrink k)) = 5 * n + 2 * limits.comms + 3
polling limits n (Some (Barrier k)) = n + 1

-- how many a call makes after its look that goes on behind it, where a poll makes so many
abbrev pub behind : {P : Type 0} → ℕ → Call P → ℕ
behind polls (call.Fail rank) = 0
behind polls (call.GetFailed rank c) = 0
behind polls (call.FailureGetAcked rank c) = 0
behind polls (call.Ack rank c count) = 0
behind polls (call.FailureAck rank c) = 0
behind polls (call.Agree rank c value) = 2
behind polls (call.Shrink rank c) = 2
behind polls (call.Barrier rank c) = 1
behind polls (call.Poll rank c) = polls
behind polls (call.Revoke rank c) = 1
behind polls (call.IsRevoked rank c) = 1
behind polls (call.Free rank c) = 0

-- .. by the members of its communicator and the request that is open there
abbrev pub behind_look : {P : Type 0} → Limits → Record → Call P → ℕ
behind_look limits own asked = let x = held_at own (comm_of asked) in behind (polling limits (length (group_of x)) (request_of x)) asked

-- how many a call makes after its look: none where the record refuses it
abbrev pub after_look : {P : Type 0} → Limits → Record → Call P → ℕ
after_look limits own asked = if is_some (refusal_of own asked) then 0 else behind_look limits own asked

-- how many it makes from the last step of its look on
abbrev pub with_look : {P : Type 0} → Limits → Record → Call P → ℕ
with_look limits own asked = after_look limits own asked + max 1 (limits.ranks - length own.seen)

-- how many the poll of an agreement makes once it knows its round's decision: a shrink may read on in the list of failures, and looks for
-- its communicator
abbrev pub after_round : Limits → Record → Bool → ℕ
after_round limits own false = 0
after_round limits own true = limits.ranks - length own.seen + 2 * (limits.comms - 1)

-- how many it makes once it has loaded its round's blocks: marks of the declared members, and readings of the blocks, come before that; where
-- nobody is to be marked, the reading may begin with one more load, of the place of a member who was missing
abbrev pub after_peek : {P : Type 0} → Limits → Record → Call P → Bool → ℕ
after_peek limits own asked shrinks =
    let group = group_of (held_at own (comm_of asked)) in
    max 1 (length (filter (has group) own.seen)) + blocks_cost (length group) + after_round limits own shrinks

-- that load
abbrev pub reads_first : {P : Type 0} → Phase P → ℕ
reads_first (Reading reading shrinks) = 1
reads_first _ = 0

-- how many steps a call makes from here on, at most, by what it does next
abbrev pub steps_left : {P : Type 0} → Limits → Record → Call P → Phase P → ℕ
steps_left limits own asked Over = 0
steps_left limits own asked Begun = max 1 (limits.ranks - length own.seen) + after_look limits own asked
steps_left limits own asked Looking = limits.ranks - length own.seen + after_look limits own asked
steps_left limits own asked (Spreading request offer) = 2
steps_left limits own asked (Settling request offer) = 1
steps_left limits own asked (Arriving round) = 1
steps_left limits own asked Revoking = 1
steps_left limits own asked Asking = 1
steps_left limits own asked (Peeking peek shrinks) =
    peeks_left (length (group_of (held_at own (comm_of asked)))) peek + after_peek limits own asked shrinks
steps_left limits own asked (Marking marks blocks shrinks) =
    let group = group_of (held_at own (comm_of asked)) in
    marks_left group own.seen marks.next + unread_cost blocks (length group) + after_round limits own shrinks
steps_left limits own asked (Reading reading shrinks) =
    blocks_left (length (group_of (held_at own (comm_of asked)))) reading + after_round limits own shrinks
steps_left limits own asked (ReadingOn on made) = after_round limits own true
steps_left limits own asked (Spawning append context reach) = turns_left (limits.comms - 1) append
steps_left limits own asked (Waiting arrivals) = arrivals_left (group_of (held_at own (comm_of asked))) own.seen arrivals + 1
steps_left limits own asked (Checking missing) = 1

-- fewer than so many are left, if the call goes on
abbrev pub FewerLeft : {P : Type 0} → ℕ → Limits → Record → Call P → Next P → Type 0
FewerLeft most limits own asked (Goes phase) = steps_left limits own asked phase < most
FewerLeft most limits own asked (Ends reply) = ⊤

-- how many are left after a step, at most: none where the call has ended
abbrev pub left_in : {P : Type 0} → Limits → Record → Call P → Next P → ℕ
left_in limits own asked (Goes phase) = steps_left limits own asked phase
left_in limits own asked (Ends reply) = 0

-- the steps that a call makes, with those that are left then, are no more than so many
abbrev pub Spends : {P : Type 0} → ℕ → Limits → Record → Call P → Next P → Sight P → Sight P → Type 0
Spends most limits own asked next old new = new.steps + left_in limits own asked next ≤ old.steps + most
