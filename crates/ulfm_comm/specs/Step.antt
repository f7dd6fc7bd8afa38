-- What one step of a call does.
use Rattle.std.specs.Prelude.{◌≡◌, ◌⊎◌, ℕ, ◌+◌, ◌-◌, ◌<◌, ◌≤◌, Bool, true, false, List, [], ◌∷◌, Some, Option, IsTrue, length, max, ⊤}
use mathlib.Core.List.{IsPrefix}
use Rattle.ulfm_model.specs.declared.{block.Beside.{Beside}, call.Call.{Call}, event.Caller.TheVariants.{Rank}, event.Event.{Event}, limits.Limits.{Limits}}
use Rattle.ulfm_model.specs.declared.{refusal.Refusal.TheVariants.{SelfFailed}, reply.Reply.{Reply}, reply.Reply.TheVariants.{Refused, Revoked, Started}}
use Rattle.ulfm_model.specs.{Answers.{CallAdds, polled_by, traits_of}, History.{History, entries_by, failures, has}}
use Rattle.ulfm_model.specs.{Records.{Held, Record, held_at, is_shrink}, Runs.{Did}, Terms.{comm_of}}
use Rattle.ulfm_words.specs.Steps.{IsView, Sight, TriesFurther, View, view_at}
use Rattle.ulfm_comm.specs.{Look.{JustLooked}, StepsLeft.{FewerLeft, MakesStep, Spends, steps_left, with_look}}
use Rattle.ulfm_comm.specs.Missing.{AnsweredNow, AnswersMissing, FindsMissing, FoundNow, midway}
use Rattle.ulfm_comm.specs.{AlsoLeft.{AlsoFollows, AlsoTurns, FindsSetIn, also_left}, Known.{KnowsIn, KnowsNext}, Requests.{BlocksStand, LeavesSet}}
use Rattle.ulfm_comm.specs.{Local.{Local, local, stance_of}, Prepared.{Prepared, unprepared}, Proposals.{WinsNext}, Wings.{MayTry, WingsIn, WingsNext}}
use Rattle.ulfm_comm.specs.Phase.{Answered, UnderWay, under_way, is_looking, next_step, IsFurther, IsPast, LeadsTo, NextIs, reply_in, Stands, Turns}
use Rattle.ulfm_comm.specs.declared.{phases.phase.Next.{Next}, phases.phase.Next.TheVariants.{Ends, Goes}, phases.phase.Phase.{Phase}}
use Rattle.ulfm_comm.specs.declared.phases.phase.Phase.TheVariants.{Over, Begun, Looking, Settling, Arriving, Revoking, Marking, ReadingOn}
use Rattle.ulfm_comm.specs.declared.phases.phase.Phase.TheVariants.{Spawning}

-- steps of one rank, with own events alone where nobody else steps; what was known to be set still is
pub record Walks {P : Type 0} (meld : P → P → P) (quiet : Bool) (rank : ℕ) (old new : View P) : Type 0 where
  pub of : IsView meld new
  pub own : List (Event P)
  pub did : Did quiet (entries_by (Rank rank) own) old.pass.seen new.pass.seen
  pub onward : old.pass.steps ≤ new.pass.steps
  pub cached : IsPrefix old.pass.cached new.pass.cached

-- An event that a call adds in a step with this reply, if it ends so. A start adds one only where it has started, and a revocation
-- only where it has revoked.
pub record Makes {P : Type 0} (look : List ℕ) (own : Record) (asked : Call P) (reply : Option (Reply P)) (event : Event P) : Type 0 where
  pub x : Held
  pub held : held_at own (comm_of asked) ≡ Some x
  pub adds : CallAdds look own.number x asked event
  pub wins : (traits_of asked).polls ≡ false → (reply ≡ Some Started) ⊎ (reply ≡ Some Revoked)

-- the look of a call has just ended, whenever the call began
abbrev pub HasJustLooked : {P : Type 0} → (P → P → P) → Call P → Local P → Type 0
HasJustLooked {P} meld asked now = (old : Record) × (before : Sight P) × JustLooked meld false asked (local old (view_at now.view.words before)) now

-- what comes next leads on from the end of the look, also where nobody else steps
abbrev pub FollowsLook : {P : Type 0} → (P → P → P) → Call P → Local P → Next P → Record → Type 0
FollowsLook {P} meld asked now next new =
    (prepared : Prepared) (alone : Bool) (old : Record) (before : Sight P) → JustLooked meld alone asked (local old (view_at now.view.words before)) now
    → NextIs meld alone asked (local old (view_at now.view.words before)) next prepared (local new now.view)

-- nothing happened but others' events, or one event of the call's own after them
pub record Adds {P : Type 0} (quiet : Bool) (look : List ℕ) (own : Record) (asked : Call P) (reply : Option (Reply P)) (old new : History P) : Type 0 where
  pub events : List (Event P)
  pub did : Did quiet (entries_by (Rank own.number) events) old new
  pub few : (events ≡ []) ⊎ ((event : Event P) × (events ≡ event ∷ []) × Makes look own asked reply event)

-- what one step adds, by what the call does
abbrev pub StepAdds : {P : Type 0} → Bool → Record → Call P → Phase P → Option (Reply P) → History P → History P → Type 0
StepAdds quiet own asked (Settling request offer) reply old new = Adds quiet own.seen own asked reply old new
StepAdds quiet own asked (Arriving round) reply old new = Adds quiet own.seen own asked reply old new
StepAdds quiet own asked Revoking reply old new = Adds quiet own.seen own asked reply old new
StepAdds quiet own asked (Marking marks blocks shrinks) reply old new = Adds quiet own.seen own asked reply old new
StepAdds quiet own asked (Spawning append context reach) reply old new = Adds quiet [] own asked reply old new
StepAdds quiet own asked _ reply old new = Did quiet [] old new

-- what one step leaves of the failures that were seen: all, but for a load of their list; a shrink's poll that reads on sees more behind them
abbrev pub StepSees : {P : Type 0} → Phase P → List ℕ → List ℕ → Type 0
StepSees Begun old new = ⊤
StepSees Looking old new = ⊤
StepSees (ReadingOn on made) old new = IsPrefix old new
StepSees _ old new = new ≡ old

-- Steps of a call's look: no more than ranks weren't seen, or one, where all were; and, where not all were, no more than one beside those that
-- find a failure. Where the look has ended, the rank has seen all failures; and if it is among them, its call has ended with it.
pub record LooksOn {P : Type 0} (limits : Limits) (own : Record) (now : Sight P) (next : Next P) (new : Record) (after : Sight P) : Type 0 where
  pub few : after.steps ≤ now.steps + max 1 (limits.ranks - length own.seen)
  pub found : length own.seen < limits.ranks → after.steps + length own.seen ≤ now.steps + length new.seen + 1
  pub sees : IsPast next → new.seen ≡ failures after.seen
  pub ends : IsPast next → IsTrue (has new.seen own.number) → next ≡ Ends (Refused SelfFailed)

-- One step of a call that stood so: the one that was named. Of a rank that was refused for good before there is none, and it is
-- refused again. Any other has added one event at most, and has seen more only by a load of the list of failures. If the call goes
-- on, fewer steps are left, also beside the failures that it has seen more, and it does what its phase leads to. What it knows of blocks is of
-- such as are known to be set. The poll of a barrier that found somebody missing is answered, after its last load, as it was when that was
-- found.
pub record Stepped {P : Type 0} (meld : P → P → P) (quiet : Bool) (was : UnderWay P) (old : Local P) (next : Next P) (new : Local P) : Type 0 where
  pub of : IsView meld new.view
  pub onward : old.view.pass.steps ≤ new.view.pass.steps
  pub cached : IsPrefix old.view.pass.cached new.view.pass.cached
  pub caches : TriesFurther (MayTry old.own was.asked) old.view.pass.caches new.view.pass.caches
  pub named : MakesStep (next_step was.phase) old.own.number (comm_of was.asked) old.view.pass new.view.pass
  pub nearer : FewerLeft (steps_left new.view.words.limits old.own was.asked was.phase) new.view.words.limits new.own was.asked next
  pub also : AlsoTurns new.view.words.limits was.asked was.phase (stance_of old) next (stance_of new)
  pub over : was.phase ≡ Over → (next ≡ Ends (Refused SelfFailed)) × (new.own ≡ old.own)
  pub adds : StepAdds quiet old.own was.asked was.phase (reply_in next) old.view.pass.seen new.view.pass.seen
  pub sees : StepSees was.phase old.own.seen new.own.seen
  pub looks : is_looking was.phase ≡ true → LooksOn new.view.words.limits old.own old.view.pass next new.own new.view.pass
  pub knows : KnowsIn old.own was.asked old.view.pass.cached was.phase → KnowsNext old.own was.asked new.view.pass.cached next
  pub leads : LeadsTo was.phase next
  pub checks : FoundNow (FindsMissing meld quiet (midway was old) new) was.phase next
  pub early : AnsweredNow (AnswersMissing meld quiet (midway was old) new.own) was.phase next

-- what a call's turn leaves of the words that no event sets: it tries to set no others than it may, and where nobody else steps, no wing without its
-- place, but between the two words of its contribution
pub record TriesTurn {P : Type 0} (quiet : Bool) (was : UnderWay P) (old : Local P) (next : Next P) (new : Local P) : Type 0 where
  pub caches : TriesFurther (MayTry old.own was.asked) old.view.pass.caches new.view.pass.caches
  pub wings : IsTrue quiet → WingsIn old.own was.asked was.phase old.view → WingsNext new.own was.asked next new.view

-- what comes next, and what is prepared for a communicator that the call makes
pub record Coming (P : Type 0) : Type 0 where
  pub next : Next P
  pub prepared : Prepared

abbrev pub coming : {P : Type 0} → Next P → Prepared → Coming P
coming next prepared = record { next = next; prepared = prepared }

-- A call takes its turn in a phase, by one step or by all of them: it walks on, by the step that is named, comes nearer to its reply, spends
-- no more steps than it may, also by what it sees more, adds and sees what the phase may, knows no block that isn't known to be set, does what
-- the phase leads to, and stands where it goes on, or is answered.
pub record TakesTurn {P : Type 0} (meld : P → P → P) (quiet whole : Bool) (was : UnderWay P) (old : Local P) (comes : Coming P) (new : Local P)
    : Type 0 where
  pub walks : Walks meld quiet old.own.number old.view new.view
  pub beside : TriesTurn quiet was old comes.next new
  pub named : whole ≡ false → MakesStep (next_step was.phase) old.own.number (comm_of was.asked) old.view.pass new.view.pass
  pub nearer : whole ≡ false
      → FewerLeft (steps_left new.view.words.limits old.own was.asked was.phase) new.view.words.limits new.own was.asked comes.next
  pub spends : Spends (steps_left new.view.words.limits old.own was.asked was.phase) new.view.words.limits new.own was.asked comes.next old.view.pass
      new.view.pass
  pub also : AlsoTurns new.view.words.limits was.asked was.phase (stance_of old) comes.next (stance_of new)
  pub further : whole ≡ true → IsFurther was.phase comes.next
  pub adds : whole ≡ false → StepAdds quiet old.own was.asked was.phase (reply_in comes.next) old.view.pass.seen new.view.pass.seen
  pub sees : StepSees was.phase old.own.seen new.own.seen
  pub looks : is_looking was.phase ≡ true → LooksOn new.view.words.limits old.own old.view.pass comes.next new.own new.view.pass
  pub knows : KnowsIn old.own was.asked old.view.pass.cached was.phase → KnowsNext old.own was.asked new.view.pass.cached comes.next
  pub leads : LeadsTo was.phase comes.next
  pub turns : Turns meld quiet was old comes.next comes.prepared new

-- A call goes on in any phase: it takes its turn; one that is over is refused again, with its record as it was; a barrier's poll finds who is
-- missing, or is answered as it was when that was found; and a single step wins the exchange of an event that may come next.
pub record GoesOn {P : Type 0} (meld : P → P → P) (quiet whole : Bool) (was : UnderWay P) (old : Local P) (comes : Coming P) (new : Local P)
    : Type 0 where
  pub turn : TakesTurn meld quiet whole was old comes new
  pub over : was.phase ≡ Over → (comes.next ≡ Ends (Refused SelfFailed)) × (new.own ≡ old.own)
  pub checks : FoundNow (FindsMissing meld quiet (midway was old) new) was.phase comes.next
  pub early : AnsweredNow (AnswersMissing meld quiet (midway was old) new.own) was.phase comes.next
  pub wins : whole ≡ false → WinsNext meld quiet was.asked was.phase old comes.next new.view

-- The poll of a shrink has read on in the list of failures, behind what its look found. All blocks of its round are known to be set then.
pub record HasReadOn {P : Type 0} (old : Record) (asked : Call P) (found seen : List ℕ) (cached : List Beside) : Type 0 where
  pub shrinks : IsTrue (is_shrink (polled_by old asked))
  pub goes_on : IsPrefix found seen
  pub known : BlocksStand old asked cached

-- The rest of a call, behind its look: no more steps than are left, also by what it sees more. It sees more only where it reads on for a shrink.
-- It leaves its round's blocks known where they have told its reply, and it is answered.
pub record RunsOn {P : Type 0} (meld : P → P → P) (alone : Bool) (was : UnderWay P) (old : Local P) (reply : Reply P) (new : Local P) : Type 0 where
  pub of : IsView meld new.view
  pub begins : IsPrefix old.view.pass.seen new.view.pass.seen
  pub cached : IsPrefix old.view.pass.cached new.view.pass.cached
  pub beside : TriesTurn alone was old (Ends reply) new
  pub onward : old.view.pass.steps ≤ new.view.pass.steps
  pub spends : new.view.pass.steps ≤ old.view.pass.steps + steps_left new.view.words.limits old.own was.asked was.phase
  pub also : FindsSetIn old.own was.asked old.view.pass.cached was.phase → new.view.pass.steps + length old.own.seen
      ≤ old.view.pass.steps + also_left new.view.words.limits old.own was.asked was.phase + length new.own.seen
  pub sees : KnowsIn old.own was.asked old.view.pass.cached was.phase
      → (new.own.seen ≡ old.own.seen) ⊎ HasReadOn old.own was.asked old.own.seen new.own.seen new.view.pass.cached
  pub knows : KnowsIn old.own was.asked old.view.pass.cached was.phase → LeavesSet old.own was.asked reply new.view.pass.cached
  pub turns : (own : Record) → (before : Sight P) → Stands meld alone (local own (view_at old.view.words before)) was old
      → Answered meld alone was.asked (local own (view_at old.view.words before)) reply new

-- What comes next is run to the reply: a phase goes on to it, an answer is it.
abbrev pub RunsFrom : {P : Type 0} → (P → P → P) → Bool → Call P → Local P → Next P → Reply P → Local P → Type 0
RunsFrom meld alone asked now (Goes phase) reply new = RunsOn meld alone (under_way asked phase unprepared) now reply new
RunsFrom meld alone asked now (Ends answer) reply new = (answer ≡ reply) × (now.own ≡ new.own) × (now.view.pass ≡ new.view.pass)

-- What comes next behind a look that has just ended: it leads on from there, nearer to the reply, also beside the failures that the look found, and
-- knows no block that isn't known to be set.
pub record ComesBehind {P : Type 0} (meld : P → P → P) (asked : Call P) (now : Local P) (next : Next P) (new : Record) : Type 0 where
  pub further : IsFurther Looking next
  pub nearer : FewerLeft (with_look now.view.words.limits now.own asked) now.view.words.limits new asked next
  pub also : AlsoFollows now.view.words.limits asked now.own next new
  pub knows : (cached : List Beside) → KnowsNext now.own asked cached next
  pub turns : FollowsLook meld asked now next new

-- A whole call behind its look, which has just ended: what comes next is run to the reply.
pub record RunsBehind {P : Type 0} (meld : P → P → P) (alone : Bool) (asked : Call P) (now : Local P) (reply : Reply P) (new : Local P) : Type 0 where
  pub next : Next P
  pub mid : Record
  pub behind : ComesBehind meld asked now next mid
  pub runs : RunsFrom meld alone asked (local mid now.view) next reply new

-- A whole call from a phase of its look on: it takes its turn there, which ends the look, and what comes next is run to the reply.
pub record RunsThrough {P : Type 0} (meld : P → P → P) (alone : Bool) (was : UnderWay P) (old : Local P) (reply : Reply P) (new : Local P) : Type 0 where
  pub next : Next P
  pub mid : Record
  pub looked : Sight P
  pub turn : TakesTurn meld alone true was old (coming next unprepared) (local mid (view_at old.view.words looked))
  pub past : IsPast next
  pub runs : RunsFrom meld alone was.asked (local mid (view_at old.view.words looked)) next reply new

-- a phase of one step ends its call, with this reply
abbrev pub EndsTurn : {P : Type 0} → (P → P → P) → Bool → Call P → Phase P → Local P → Reply P → Local P → Type 0
EndsTurn meld quiet asked phase old reply new =
    (prepared : Prepared) (whole : Bool) → TakesTurn meld quiet whole (under_way asked phase prepared) old (coming (Ends reply) prepared) new
