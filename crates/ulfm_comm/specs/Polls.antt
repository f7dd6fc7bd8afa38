-- What a poll answers, and in which step a pending one ends.
use Rattle.std.specs.Prelude.{◌≡◌, ℕ, ◌<◌, Bool, true, [], Option, Some, None, IsTrue, IsFalse, Result, Ok, Err, filter, ⊤}
use Rattle.ulfm_laws.specs.declared.summary.Summary.{Summary}
use Rattle.ulfm_model.specs.declared.{call.Call.{Call}, call.Call.TheVariants.{Poll}, call.Request.{Request}, call.Request.TheVariants.{Agree, Shrink, Barrier}}
use Rattle.ulfm_model.specs.declared.{limits.Limits.{Limits}, place.Place.TheVariants.{Slot as SlotAt}, refusal.Refusal.{Refusal}}
use Rattle.ulfm_model.specs.declared.{refusal.Refusal.TheVariants.{OutOfMemory}, reply.Reply.{Reply}}
use Rattle.ulfm_model.specs.declared.{reply.Reply.TheVariants.{Agreed as AgreedOn, Done as AllCame, Pending as StillPending, Shrunk as ShrunkTo}}
use Rattle.ulfm_model.specs.{Answers.{polled_by}, History.{History, IsLegal, failures, has, slot}, Records.{Fits, Held, Moment, held_at, is_shrink}}
use Rattle.ulfm_model.specs.{Runs.{Did, IsRun}, Terms.{comm_of}}
use Rattle.ulfm_words.specs.Steps.{IsView}
use Rattle.ulfm_model.specs.Blocks.{IsSummed}
use Rattle.ulfm_words.specs.declared.step.Site.{Site}
use Rattle.ulfm_steps.specs.Marks.{Marks}
use Rattle.ulfm_comm.specs.{Calls.{Calls, EndsBy, LeavesBlocks, is_out_of_memory, reply_of}, Local.{Frame, Local, moment_of}, Look.{HoldsSince}}
use Rattle.ulfm_comm.specs.Requests.{PolledRound, agreement}
use Rattle.ulfm_comm.specs.declared.{calls.polled.Polled.{Polled}, calls.polled.Polled.TheVariants.{Agreed, Done, Pending, Shrunk}}

-- the open request is no barrier: it is an agree or a shrink, or there is none
abbrev pub IsAgreement : Option Request → Type 0
IsAgreement None = ⊤
IsAgreement (Some (Agree k)) = ⊤
IsAgreement (Some (Shrink k)) = ⊤
IsAgreement (Some (Barrier k)) = ⊥

-- the reply that a poll's Rust value stands for
abbrev pub polled : {P : Type 0} → Polled P → Reply P
polled Pending = StillPending
polled (Agreed raised failed value) = AgreedOn raised failed value
polled (Shrunk j context size) = ShrunkTo j context size
polled Done = AllCame

-- a poll with this result linearizes, as a whole call of the sequential object, or ran out of memory
abbrev pub PollIs : {P : Type 0} → (P → P → P) → Bool → Call P → Local P → Result (Polled P) Refusal → Local P → Type 0
PollIs meld alone asked old (Ok reply) new = Calls meld alone asked old (polled reply) new
PollIs meld alone asked old (Err refusal) new = EndsBy meld alone asked old refusal (is_out_of_memory refusal) new

-- A poll: whatever it answers, the pass is of these words still, the record fits what the pass has seen, and the known blocks are left as
-- `LeavesBlocks` says. Only the poll of a shrink may run out of memory.
pub record Polls {P : Type 0} (meld : P → P → P) (alone : Bool) (asked : Call P) (old : Local P) (result : Result (Polled P) Refusal) (new : Local P)
    : Type 0 where
  pub of : IsView meld new.view
  pub fits : Fits meld new.view.words.limits new.view.pass.seen new.own
  pub run : PollIs meld alone asked old result new
  pub memory : result ≡ Err OutOfMemory → IsTrue (is_shrink (polled_by old.own asked))
  pub blocks : LeavesBlocks alone asked old (reply_of polled result) new

-- A poll under way: it has looked, and then made the marks that were lacking, so that in the round of its open request each member that the look
-- found declared is settled. After that only others' events came.
pub record PollHasMarked {P : Type 0} (by : Frame P) (c : ℕ) (which : PolledRound) (x : Held) (start now : Moment P) : Type 0 where
  pub since : HoldsSince by c x start now.own
  pub open_is : x.request ≡ Some (agreement which.shrinks which.round)
  pub marked : History P
  pub marks : Marks by.alone start.own.number c which.round (filter (has x.group) (failures since.look)) since.look marked
  pub waited : Did by.alone [] marked now.seen
  pub legal : IsLegal by.meld by.limits now.seen

-- the round of the rank's open request is read through: `all` is what the members' places say, combined
pub record HasRead {P : Type 0} (meld : P → P → P) (limits : Limits) (c : ℕ) (which : PolledRound) (all : Summary P) (now : Moment P) : Type 0 where
  pub fits : Fits meld limits now.seen now.own
  pub x : Held
  pub held : held_at now.own c ≡ Some x
  pub open_is : x.request ≡ Some (agreement which.shrinks which.round)
  pub read : IsSummed meld now.seen c which.round x.group all

-- A run that answers pending has its point at its end, and its own last step is a load there that gave 0. What it loaded is the place, in the open
-- request's round, of a member that its look didn't find declared.
pub record EndsInMissing {P : Type 0} (meld : P → P → P) (alone : Bool) (c : ℕ) (old new : Local P) : Type 0 where
  pub run : IsRun meld new.view.words.limits alone (moment_of old) (Poll old.own.number c) StillPending (moment_of new)
  pub at_end : run.span.point ≡ new.view.pass.seen
  pub x : Held
  pub held : held_at old.own c ≡ Some x
  pub shrinks : Bool
  pub round : ℕ
  pub open_is : x.request ≡ Some (agreement shrinks round)
  pub member : ℕ
  pub in_group : IsTrue (has x.group member)
  pub not_declared : IsFalse (has (failures run.span.look) member)
  pub unsettled : slot run.span.point c round member ≡ None
  pub in_call : old.view.pass.steps < new.view.pass.steps
  pub loaded : new.view.pass.last ≡ Some (record { at = Site.Place (SlotAt c round member); word = 0; load = true })

-- a call with this reply ends in such a load, where it is the poll of an agreement (no barrier) and answers pending
abbrev pub PendsIn : {P : Type 0} → (P → P → P) → Bool → Call P → Local P → Reply P → Local P → Type 0
PendsIn meld alone asked old reply new =
    reply ≡ StillPending → IsAgreement (polled_by old.own asked) → EndsInMissing meld alone (comm_of asked) old new

-- the same by the poll's result: a pending poll of an agreement ends in such a load
abbrev pub EndsIn : {P : Type 0} → (P → P → P) → Bool → ℕ → Local P → Local P → Polled P → Type 0
EndsIn {P} meld alone c old new Pending = IsAgreement (polled_by {P = P} old.own (Poll old.own.number c)) → EndsInMissing meld alone c old new
EndsIn meld alone c old new (Agreed raised failed value) = ⊤
EndsIn meld alone c old new (Shrunk j context size) = ⊤
EndsIn meld alone c old new Done = ⊤

-- the poll's answer isn't pending: the request was answered
abbrev pub IsNotPending : {P : Type 0} → Polled P → Type 0
IsNotPending Pending = ⊥
IsNotPending (Agreed raised failed value) = ⊤
IsNotPending (Shrunk j context size) = ⊤
IsNotPending Done = ⊤
