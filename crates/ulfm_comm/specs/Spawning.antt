-- The poll of a shrink once its round is decided: how it comes by its communicator.
use Rattle.std.specs.Prelude.{◌≡◌, ◌⊎◌, ℕ, ◌<◌, ◌≤◌, Bool, true, false, List, [], ◌∷◌, Some, length, take, IsFalse, ◌+◌, ◌^◌, ◌-◌, not, ◌++◌, nat_eq, slice_get}
use mathlib.Core.List.{IsPrefix}
use Rattle.ulfm_laws.specs.declared.{summary.Body.TheVariants.{Ctx as OfIds}, summary.CtxMask.{CtxMask}, summary.Summary.{Summary}}
use Rattle.ulfm_laws.specs.Ranges.{payload_bits}
use Rattle.ulfm_model.specs.declared.{call.Call.{Call}, event.Caller.TheVariants.{Rank}, event.Event.{Event}, limits.Limits.{Limits}, event.Caller.{Caller}}
use Rattle.ulfm_model.specs.declared.{event.Event.TheVariants.{Spawn}, place.Place.TheVariants.{Comm as CommAt}}
use Rattle.ulfm_model.specs.declared.{refusal.Refusal.TheVariants.{NoRoom}, reply.Reply.TheVariants.{Refused}}
use Rattle.ulfm_model.specs.History.{History, entries_by, failures, has, without, is_made, spawns}
use Rattle.ulfm_model.specs.Records.{Held, IsLowestId, Moment, Record, held_at, moment}
use Rattle.ulfm_model.specs.{Runs.{Did}, Terms.{comm_of, contexts_of, new_held, settled_by}, Answers.{closed}}
use Rattle.ulfm_words.specs.Steps.{IsView, Sight, View}
use Rattle.ulfm_steps.specs.declared.{append.Append.{Append}, item.Item.TheVariants.{Comm as OfComm}}
use Rattle.ulfm_model.specs.Blocks.{IsSummed}
use Rattle.ulfm_steps.specs.{Appends.{Passed, room, MayAppend, turns_left}, ReadsOn.{ReadsOn}, Rounds.{RoundOn, round_on}, Turns.{Running, TakesFirst, running}}
use Rattle.ulfm_comm.specs.{Agreement.{PollsOn}, Local.{Frame, Local, frame_of, moment_of}, Polls.{PollHasMarked}, Prepared.{HasPlaces, Prepared}, Requests.{polled_round}}
use Rattle.ulfm_comm.specs.declared.{phases.phase.Made.{Made}, phases.phase.Next.{Next}, phases.phase.Next.TheVariants.{Ends}}
use Rattle.ulfm_comm.specs.declared.phases.spawning.Spawned.{Spawned}
use Rattle.ulfm_comm.specs.declared.phases.spawning.Spawned.TheVariants as spawned
use Rattle.std.specs.List.{AllByRecursion}

-- a step may be made in the list of communicators, on the way to that of a round
pub record MayGoSpawning {P : Type 0} (meld : P → P → P) (limits : Limits) (seen : History P) (c k : ℕ) (append : Append) : Type 0 where
  pub item : append.item ≡ OfComm c k
  pub may : MayAppend meld limits seen (OfComm c k)
  pub in_rounds : k < limits.rounds
  pub passed : Passed seen (OfComm c k) append.index
  pub more : append.index < limits.comms - 1

-- the rank may hold a communicator more, with this context id, which it doesn't hold yet, and so many members
pub record MayHold (own : Record) (c context size : ℕ) : Type 0 where
  pub x : Held
  pub held : held_at own c ≡ Some x
  pub few : size < 2 ^ 16
  pub id : context < payload_bits
  pub fresh : AllByRecursion (λ i. nat_eq i context ≡ false) (contexts_of own.held)

-- communicator j was made of the round, by this call or before; no block was cached
pub record IsMadeBy {P : Type 0} (meld : P → P → P) (alone : Bool) (by : Caller) (at : RoundOn) (old : View P) (j : ℕ) (new : View P) : Type 0 where
  pub of : IsView meld new
  pub own : List (Event P)
  pub makes : AllByRecursion (λ event. (i : ℕ) × (event ≡ Spawn i at.comm at.round)) own
  pub few : (own ≡ []) ⊎ ((i : ℕ) × (own ≡ Spawn i at.comm at.round ∷ []))
  pub settles_none : settled_by own ≡ []
  pub did : Did alone (entries_by by own) old.pass.seen new.pass.seen
  pub some : 0 < j
  pub made : slice_get (spawns new.pass.seen) (j - 1) ≡ Some (at.comm, at.round)
  pub onward : old.pass.steps ≤ new.pass.steps
  pub cached : IsPrefix old.pass.cached new.pass.cached
  pub caches : new.pass.caches ≡ old.pass.caches

-- all communicators that there may be were made, and not of this round; no block was cached
pub record IsFullBy {P : Type 0} (meld : P → P → P) (alone : Bool) (at : RoundOn) (old new : View P) : Type 0 where
  pub of : IsView meld new
  pub did : Did alone [] old.pass.seen new.pass.seen
  pub full : length (spawns new.pass.seen) + 1 ≡ new.words.limits.comms
  pub unmade : IsFalse (is_made new.pass.seen at.comm at.round)
  pub onward : old.pass.steps ≤ new.pass.steps
  pub cached : IsPrefix old.pass.cached new.pass.cached
  pub caches : new.pass.caches ≡ old.pass.caches

-- it isn't found yet, and the next step may be made; no block was cached
pub record IsSoughtBy {P : Type 0} (meld : P → P → P) (alone : Bool) (at : RoundOn) (old new : Running Append P) : Type 0 where
  pub of : IsView meld new.view
  pub did : Did alone [] old.view.pass.seen new.view.pass.seen
  pub item : new.state.item ≡ old.state.item
  pub mine : new.state.by ≡ old.state.by
  pub passed : Passed new.view.pass.seen (OfComm at.comm at.round) new.state.index
  pub more : new.state.index < new.view.words.limits.comms - 1
  pub onward : old.view.pass.steps ≤ new.view.pass.steps
  pub cached : IsPrefix old.view.pass.cached new.view.pass.cached
  pub caches : new.view.pass.caches ≡ old.view.pass.caches

-- the rank holds communicator j, with these members, in place of the request on its parent
pub record Holds (c context : ℕ) (group : List ℕ) (old : Record) (j size : ℕ) (new : Record) : Type 0 where
  pub size_is : size ≡ length group
  pub record_is : new ≡ (let rest = closed old c in record rest { held = rest.held ++ new_held j context group ∷ [] })

-- how many steps are left on the way to a round's communicator
abbrev pub spawn_left : Limits → Append → Spawned → ℕ
spawn_left limits next spawned.Unknown = turns_left (limits.comms - 1) next
spawn_left limits next (spawned.Made j size) = 0
spawn_left limits next spawned.Full = 0

-- the steps in the list of communicators, the first of them at the place that is tried: an exchange after a load that found nothing, or
-- else a load
abbrev pub SpawnTakes : {P : Type 0} → Bool → Limits → Append → Spawned → Append → Sight P → Sight P → Type 0
SpawnTakes whole limits old result new =
    TakesFirst whole (CommAt (old.index + 1)) (not old.empty) (turns_left (limits.comms - 1) old) (spawn_left limits new result)

-- what a communicator will be once it is made and held: of this round, with this context id and these members
pub record Target : Type 0 where
  pub at : RoundOn
  pub context : ℕ
  pub group : List ℕ

abbrev pub target : ℕ → ℕ → ℕ → List ℕ → Target
target c k context group = record { at = round_on c k; context = context; group = group }

-- a shrink's poll that looks for its communicator: the place that it tries, and what its rank goes by
pub record Seeking (P : Type 0) : Type 0 where
  pub append : Append
  pub rank : Local P

abbrev pub seeking : {P : Type 0} → Append → Local P → Seeking P
seeking append rank = record { append = append; rank = rank }

-- the round's communicator isn't found yet; or it is made and held; or there is no room for it
abbrev pub SpawnIs : {P : Type 0} → (P → P → P) → Bool → Target → Seeking P → Spawned → Seeking P → Type 0
SpawnIs meld alone makes old spawned.Unknown new =
    IsSoughtBy meld alone makes.at (running old.append old.rank.view) (running new.append new.rank.view) × (new.rank.own ≡ old.rank.own)
SpawnIs meld alone makes old (spawned.Made j size) new =
    IsMadeBy meld alone old.append.by makes.at old.rank.view j new.rank.view
    × Holds makes.at.comm makes.context makes.group old.rank.own j size new.rank.own
SpawnIs meld alone makes old spawned.Full new = IsFullBy meld alone makes.at old.rank.view new.rank.view × (new.rank.own ≡ old.rank.own)

-- what a shrink decided on: in this round, these context ids, with so many failed members
abbrev pub decided_as : ℕ → CtxMask → ℕ → Made
decided_as round mask count = record { round = round; mask = mask; count = count }

-- The poll of a shrink has read the round through, which is decided on this mask, with so many failed members.
pub record IsDecidedOn {P : Type 0} (by : Frame P) (c : ℕ) (made : Made) (x : Held) (start now : Moment P) : Type 0 where
  pub marked : PollHasMarked by c (polled_round true made.round) x start now
  pub all : Summary P
  pub read : IsSummed by.meld now.seen c made.round x.group all
  pub body : all.body ≡ OfIds made.mask
  pub some : 0 < made.mask.bits
  pub count_is : made.count ≡ all.known.count

-- Its round is decided so, and it has read on in the list of failures.
pub record HasReadMask {P : Type 0} (by : Frame P) (c : ℕ) (made : Made) (x : Held) (start now : Moment P) : Type 0 where
  pub mid : Record
  pub decided : History P
  pub said : IsDecidedOn by c made x start (moment mid decided)
  pub waited : Did by.alone [] decided now.seen
  pub own_is : now.own ≡ record mid { seen = now.own.seen }
  pub goes_on : IsPrefix mid.seen now.own.seen
  pub begins : IsPrefix now.own.seen (failures now.seen)

-- the communicator that is looked for: its context id, how far the failures reach that it leaves out, and its members
pub record Sought : Type 0 where
  pub context : ℕ
  pub reach : ℕ
  pub group : List ℕ

abbrev pub sought : ℕ → ℕ → List ℕ → Sought
sought context reach group = record { context = context; reach = reach; group = group }

-- The whole failed group of the decision is read, the rank isn't in it, and the communicator is looked for.
pub record IsSpawning {P : Type 0} (by : Frame P) (c : ℕ) (append : Append) (seeks : Sought) (start now : Moment P) : Type 0 where
  pub x : Held
  pub round : ℕ
  pub mask : CtxMask
  pub count : ℕ
  pub decided : HasReadMask by c (decided_as round mask count) x start now
  pub lowest : IsLowestId mask.bits seeks.context
  pub reads : ReadsOn x.group count decided.mid.seen now.own.seen (failures now.seen) seeks.reach
  pub stays : IsFalse (has (take seeks.reach now.own.seen) now.own.number)
  pub left : seeks.group ≡ without x.group (take seeks.reach now.own.seen)
  pub item : append.item ≡ OfComm c round
  pub mine : append.by ≡ Rank start.own.number
  pub passed : Passed now.seen append.item append.index
  pub more : append.index < room append.item by.limits

-- the poll of a shrink has just read the list of failures as far as the decision's failed group reaches
pub record HasReached {P : Type 0} (meld : P → P → P) (alone : Bool) (asked : Call P) (made : Made) (reach : ℕ) (start now : Local P) : Type 0 where
  pub on : PollsOn meld asked start now
  pub x : Held
  pub decided : HasReadMask (frame_of meld alone start) (comm_of asked) made x (moment_of start) (moment_of now)
  pub reads : ReadsOn x.group made.count decided.mid.seen now.own.seen (failures now.view.pass.seen) reach

-- Where the world has no room for a communicator more, the memory for its members was there before, and so were the places for it.
abbrev pub HadMemory : {P : Type 0} → Call P → ℕ → Record → Next P → Prepared → Type 0
HadMemory asked reach own next prepared =
    next ≡ Ends (Refused NoRoom) → (x : Held) → held_at own (comm_of asked) ≡ Some x
    → (prepared.members ≡ without x.group (take reach own.seen)) × HasPlaces own.held prepared.places
