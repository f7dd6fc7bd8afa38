-- How many atomic steps a call makes at most beside a load for each failure that its rank has seen more.
use Rattle.std.specs.Prelude.{◌≡◌, ℕ, ◌+◌, ◌-◌, ◌*◌, ◌≤◌, Bool, true, false, List, length, Option, Some, None, is_some, if◌then◌else◌, ⊤}
use Rattle.ulfm_model.specs.declared.{block.Beside.{Beside}, block.Side.TheVariants.{Front, Back}}
use Rattle.ulfm_model.specs.declared.{call.Call.{Call}, call.Request.{Request}, call.Request.TheVariants.{Agree, Shrink, Barrier}, limits.Limits.{Limits}}
use Rattle.ulfm_model.specs.{Answers.{refusal_of}, Blocks.{has_block}, Records.{Record, held_at}, Terms.{comm_of, request_of}}
use Rattle.ulfm_steps.specs.{Blocks.{block_at, has_back, peeks_left}, declared.blocks.Peek.{Peek}}
use Rattle.ulfm_comm.specs.{Begins.{reads_again}, Local.{Stance}, Requests.{BlocksStand}, StepsLeft.{behind, group_of, steps_left}}
use Rattle.ulfm_comm.specs.declared.{phases.phase.Next.{Next}, phases.phase.Next.TheVariants.{Goes, Ends}, phases.phase.Phase.{Phase}}
use Rattle.ulfm_comm.specs.declared.phases.phase.Phase.TheVariants.{Begun, Looking, Peeking, Marking, Reading, ReadingOn}

-- the poll of an agreement, once it knows its round's decision: a shrink looks for its communicator
abbrev pub also_after_round : Limits → Bool → ℕ
also_after_round limits false = 0
also_after_round limits true = 2 * (limits.comms - 1)

-- the poll of a request after its look: an agreement loads two blocks and their wings
abbrev pub also_polling : Limits → ℕ → Option Request → ℕ
also_polling limits n None = 0
also_polling limits n (Some (Agree k)) = 4
also_polling limits n (Some (Shrink k)) = 4 + also_after_round limits true
also_polling limits n (Some (Barrier k)) = n + 1

-- a call that goes on behind its look, after it
abbrev pub also_behind_look : {P : Type 0} → Limits → Record → Call P → ℕ
also_behind_look limits own asked = let x = held_at own (comm_of asked) in behind (also_polling limits (length (group_of x)) (request_of x)) asked

-- any call after its look: none where the record refuses it
abbrev pub also_after_look : {P : Type 0} → Limits → Record → Call P → ℕ
also_after_look limits own asked = if is_some (refusal_of own asked) then 0 else also_behind_look limits own asked

-- A call from here on, by what it does next. A look makes one load that finds nothing; where its rank had seen all, one that finds again what
-- it had seen. For marks and readings of members nothing is said: a poll that knows its round's blocks doesn't come there. What else it may do
-- loads no list of failures, and takes the steps that are left.
abbrev pub also_left : {P : Type 0} → Limits → Record → Call P → Phase P → ℕ
also_left limits own asked Begun = reads_again limits.ranks own.seen + 1 + also_after_look limits own asked
also_left limits own asked Looking = 1 + also_after_look limits own asked
also_left limits own asked (Peeking peek shrinks) =
    peeks_left (length (group_of (held_at own (comm_of asked)))) peek + also_after_round limits shrinks
also_left limits own asked (Marking marks blocks shrinks) = 0
also_left limits own asked (Reading reading shrinks) = 0
also_left limits own asked (ReadingOn on made) = also_after_round limits true
also_left limits own asked phase = steps_left limits own asked phase

-- after a step: none where the call has ended
abbrev pub also_in : {P : Type 0} → Limits → Record → Call P → Next P → ℕ
also_in limits own asked (Goes phase) = also_left limits own asked phase
also_in limits own asked (Ends reply) = 0

-- of the two blocks of its round a peek finds each: those that it hasn't loaded are among these, and the one that it has is known
pub record FindsAll {P : Type 0} (n : ℕ) (cached : List Beside) (peek : Peek P) : Type 0 where
  pub front : peek.side ≡ Front → has_block cached (block_at peek.comm peek.round Front) ≡ true
  pub known : peek.side ≡ Back → is_some peek.blocks.front ≡ true
  pub back : has_back n ≡ true → has_block cached (block_at peek.comm peek.round Back) ≡ true

-- a call that goes on with this phase finds the blocks of its round set, or doesn't load them; of one in its look nothing is asked
abbrev pub FindsSetIn : {P : Type 0} → Record → Call P → List Beside → Phase P → Type 0
FindsSetIn own asked cached (Peeking peek shrinks) = FindsAll (length (group_of (held_at own (comm_of asked)))) cached peek
FindsSetIn own asked cached (Marking marks blocks shrinks) = ⊥
FindsSetIn own asked cached (Reading reading shrinks) = ⊥
FindsSetIn own asked cached _ = ⊤

-- .. or has ended
abbrev pub FindsSetNext : {P : Type 0} → Record → Call P → List Beside → Next P → Type 0
FindsSetNext own asked cached (Goes phase) = FindsSetIn own asked cached phase
FindsSetNext own asked cached (Ends reply) = ⊤

-- the steps that a call makes, with those that are left then, are no more than so many and one for each failure that its rank has seen more
abbrev pub AlsoFew : {P : Type 0} → ℕ → Limits → Call P → Stance P → Next P → Stance P → Type 0
AlsoFew most limits asked old next new =
    new.pass.steps + also_in limits new.own asked next + length old.own.seen ≤ old.pass.steps + most + length new.own.seen

-- so it is of a step, and the call still finds its round's blocks set
pub record AlsoSpends {P : Type 0} (most : ℕ) (limits : Limits) (asked : Call P) (old : Stance P) (next : Next P) (new : Stance P) : Type 0 where
  pub few : AlsoFew most limits asked old next new
  pub sets : FindsSetNext new.own asked new.pass.cached next

-- So it is of a step of the look, whatever is set; and what comes next finds its round's blocks set where they are known to be once that step
-- is made.
pub record AlsoLooks {P : Type 0} (most : ℕ) (limits : Limits) (asked : Call P) (old : Stance P) (next : Next P) (new : Stance P) : Type 0 where
  pub few : AlsoFew most limits asked old next new
  pub sets : BlocksStand old.own asked new.pass.cached → FindsSetNext new.own asked new.pass.cached next

-- what a step of a call spends that stood here
abbrev pub AlsoTurns : {P : Type 0} → Limits → Call P → Phase P → Stance P → Next P → Stance P → Type 0
AlsoTurns limits asked Begun old next new = AlsoLooks (also_left limits old.own asked Begun) limits asked old next new
AlsoTurns limits asked Looking old next new = AlsoLooks (also_left limits old.own asked Looking) limits asked old next new
AlsoTurns limits asked phase old next new =
    FindsSetIn old.own asked old.pass.cached phase → AlsoSpends (also_left limits old.own asked phase) limits asked old next new

-- What comes after a look that has just ended, with no step in between: no more than may come, by a rank that has seen what it had, and that
-- still finds its round's blocks set.
pub record AlsoFollows {P : Type 0} (limits : Limits) (asked : Call P) (own : Record) (next : Next P) (new : Record) : Type 0 where
  pub few : also_in limits new asked next ≤ also_after_look limits own asked
  pub sees : new.seen ≡ own.seen
  pub sets : (cached : List Beside) → BlocksStand own asked cached → FindsSetNext new asked cached next
