-- What a call of a rank promises.
use Rattle.std.specs.Prelude.{◌≡◌, ◌⊎◌, ℕ, ◌<◌, ◌≤◌, Bool, ◌==◌, true, false, [], Option, Some, None, IsTrue, IsFalse, Result, Ok, Err, ⊤}
use Rattle.std.specs.List.{AllByRecursion}
use mathlib.Core.List.{IsPrefix}
use Rattle.ulfm_laws.specs.declared.{summary.Body.TheVariants.{Ctx as OfIds}, summary.CtxMask.{CtxMask}}
use Rattle.ulfm_model.specs.declared.{call.Request.{Request}, call.Request.TheVariants.{Agree, Shrink, Barrier}}
use Rattle.ulfm_model.specs.declared.{call.Call.{Call}, event.Caller.TheVariants.{Rank}, limits.Limits.{Limits}, refusal.Refusal.{Refusal}, reply.Reply.{Reply}}
use Rattle.ulfm_model.specs.declared.{refusal.Refusal.TheVariants.{OutOfMemory, Twice}, reply.Reply.TheVariants.{FailedGroup, Refused}}
use Rattle.ulfm_model.specs.{Answers.{MayOwn, Sees, polled_by, printed, refusal_of}, History.{History, decision, entries_by, failures, has, is_decided, slot, spawns}}
use Rattle.ulfm_model.specs.{Records.{Fits, Held, Moment, Record, held_at, is_shrink}, Runs.{IsSpan}}
use Rattle.ulfm_model.specs.Terms.{comm_of}
use Rattle.ulfm_model.specs.declared.{contribution.Contribution.{Contribution}, contribution.Slot.{Slot}}
use Rattle.ulfm_words.specs.Steps.{IsView, TriesFurther, View}
use Rattle.ulfm_steps.specs.Settles.{WingStands}
use Rattle.ulfm_comm.specs.{Ends.{IsEarlyRun, IsEndRun, IsRefusedAgain}, Local.{Local, moment_of}, Requests.{LeavesSet, contributes}, Wings.{MayTry, WingsSettled}}

-- the reply that a call's Rust result stands for
abbrev pub reply_of : {P X : Type 0} → (X → Reply P) → Result X Refusal → Reply P
reply_of reply (Ok x) = reply x
reply_of reply (Err refusal) = Refused refusal

-- the start of an agreement that is answered `twice` has found a contribution at its rank's place, or tried to set its wing, which stood
abbrev pub FindsTwice : {P : Type 0} → Call P → Record → View P → Type 0
FindsTwice {P} asked own view =
    contributes asked ≡ true → (x : Held) → held_at own (comm_of asked) ≡ Some x
    → ((given : Contribution P) × (slot view.pass.seen x.comm x.next_agreement own.number ≡ Some (Slot.Given given)))
    ⊎ WingStands view x.comm x.next_agreement own.number

-- A call of a rank, whole or step by step, linearizes: among the steps of others its reply is one answer of the sequential object, with its
-- linearization point at the call's end (of a barrier's poll that found somebody missing: when that was found). A rank that was refused for good
-- is refused again without a step; the pass is of these words still, its steps were counted onward, and the record fits what it has seen. A start
-- that is answered `twice` has seen why.
pub record Linearizes {P : Type 0} (meld : P → P → P) (alone : Bool) (asked : Call P) (old : Local P) (reply : Reply P) (new : Local P) : Type 0 where
  pub of : IsView meld new.view
  pub onward : old.view.pass.steps ≤ new.view.pass.steps
  pub fits : Fits meld new.view.words.limits new.view.pass.seen new.own
  pub twice : reply ≡ Refused Twice → FindsTwice asked old.own new.view
  pub ends : (IsRefusedAgain old.own reply new.own × (new.view.pass ≡ old.view.pass))
      ⊎ (IsEndRun meld new.view.words.limits alone (moment_of old) asked reply (moment_of new)
      ⊎ IsEarlyRun meld new.view.words.limits alone (moment_of old) asked reply (moment_of new))

-- What a whole call with this reply leaves of the words that no event sets: those known to be set still are, and it tries to set no others than it
-- may: a start its own wing, the poll of an open agreement blocks' words. Where nobody else steps, no wing is left without its place. A poll whose
-- reply rests on its whole round (agreed, shrunk, mismatch, no context, no room, out of memory) leaves all blocks of that round known.
pub record LeavesBlocks {P : Type 0} (alone : Bool) (asked : Call P) (old : Local P) (reply : Reply P) (new : Local P) : Type 0 where
  pub cached : IsPrefix old.view.pass.cached new.view.pass.cached
  pub caches : TriesFurther (MayTry old.own asked) old.view.pass.caches new.view.pass.caches
  pub wings : IsTrue alone → WingsSettled old.view → WingsSettled new.view
  pub knows : LeavesSet old.own asked reply new.view.pass.cached

-- a whole call of a rank: it linearizes, and leaves the known blocks as `LeavesBlocks` says
pub record Calls {P : Type 0} (meld : P → P → P) (alone : Bool) (asked : Call P) (old : Local P) (reply : Reply P) (new : Local P) : Type 0 where
  pub linearizes : Linearizes meld alone asked old reply new
  pub blocks : LeavesBlocks alone asked old reply new

-- a shrink's round is decided, and rank r goes on from it: some context id is free at every contributor, and the rank isn't in its failed group
pub record IsDecidedFor {P : Type 0} (meld : P → P → P) (limits : Limits) (h : History P) (r c k : ℕ) : Type 0 where
  pub decided : IsTrue (is_decided limits.ranks h c k)
  pub mask : CtxMask
  pub body : (decision meld limits.ranks h c k).body ≡ OfIds mask
  pub some : 0 < mask.bits
  pub stays : IsFalse (has (decision meld limits.ranks h c k).failed r)

-- how far a call that ran out of memory had come: the poll of a shrink to a round that is decided for its rank to go on; the poll of an agree or
-- a barrier doesn't run out of memory
abbrev pub HadCome : {P : Type 0} → (P → P → P) → Limits → History P → ℕ → ℕ → Option Request → Type 0
HadCome meld limits h r c None = ⊤
HadCome meld limits h r c (Some (Agree k)) = ⊥
HadCome meld limits h r c (Some (Shrink k)) = IsDecidedFor meld limits h r c k
HadCome meld limits h r c (Some (Barrier k)) = ⊥

-- A call that ran out of memory is a run but for its reply. Its look didn't find its rank declared, the record doesn't refuse the call, no
-- communicator was made by it, and of the record only what was seen is new.
pub record IsRunOut {P : Type 0} (meld : P → P → P) (limits : Limits) (alone : Bool) (start : Moment P) (asked : Call P) (end : Moment P) : Type 0 where
  pub in_use : IsFalse start.own.refused
  pub span : IsSpan meld limits alone start.seen end.seen (Rank start.own.number)
  pub not_declared : IsFalse (has (failures span.look) start.own.number)
  pub not_refused : refusal_of start.own asked ≡ None
  pub own : AllByRecursion (MayOwn (failures span.look) start.own asked) span.own
  pub makes_none : spawns (entries_by (Rank start.own.number) span.own) ≡ []
  pub had_come : HadCome meld limits span.point start.own.number (comm_of asked) (polled_by start.own asked)
  pub sees : Sees (is_shrink (polled_by start.own asked)) (failures span.look) end.seen end.own.seen
  pub record_is : end.own ≡ record start.own { seen = end.own.seen }

-- a call that ran out of memory, whole or step by step: pass, steps and record are as for one that linearizes, and it is a run but for its reply
pub record RanOut {P : Type 0} (meld : P → P → P) (alone : Bool) (asked : Call P) (old new : Local P) : Type 0 where
  pub of : IsView meld new.view
  pub onward : old.view.pass.steps ≤ new.view.pass.steps
  pub fits : Fits meld new.view.words.limits new.view.pass.seen new.own
  pub run_out : IsRunOut meld new.view.words.limits alone (moment_of old) asked (moment_of new)

-- a whole call that ran out of memory, with what it leaves of the known blocks
pub record RunsOut {P : Type 0} (meld : P → P → P) (alone : Bool) (asked : Call P) (old new : Local P) : Type 0 where
  pub ran_out : RanOut meld alone asked old new
  pub blocks : LeavesBlocks alone asked old (Refused OutOfMemory) new

-- whether a call ran out of memory, by the refusal's number
abbrev pub is_out_of_memory : Refusal → Bool
is_out_of_memory refusal = (printed refusal).0 == 14

-- a whole call that is refused: it ran out of memory, where the test says so, or it linearizes
abbrev pub EndsBy : {P : Type 0} → (P → P → P) → Bool → Call P → Local P → Refusal → Bool → Local P → Type 0
EndsBy meld alone asked old refusal true new = RunsOut meld alone asked old new
EndsBy meld alone asked old refusal false new = Calls meld alone asked old (Refused refusal) new

-- whether a reply says that memory ran out
abbrev pub wants_memory : {P : Type 0} → Reply P → Bool
wants_memory (Refused refusal) = is_out_of_memory refusal
wants_memory _ = false

-- a call, whole or step by step, that is answered, or the poll of a shrink that ran out of memory
abbrev pub RepliedAs : {P : Type 0} → (P → P → P) → Bool → Call P → Local P → Reply P → Bool → Local P → Type 0
RepliedAs meld alone asked old reply true new = RanOut meld alone asked old new × IsTrue (is_shrink (polled_by old.own asked))
RepliedAs meld alone asked old reply false new = Linearizes meld alone asked old reply new

-- the same, where the reply itself says which of the two it was
abbrev pub HasReplied : {P : Type 0} → (P → P → P) → Bool → Call P → Local P → Reply P → Local P → Type 0
HasReplied meld alone asked old reply new = RepliedAs meld alone asked old reply (wants_memory reply) new

-- a whole call that is answered, or the poll of a shrink that ran out of memory
abbrev pub EndsAs : {P : Type 0} → (P → P → P) → Bool → Call P → Local P → Reply P → Bool → Local P → Type 0
EndsAs meld alone asked old reply true new = RunsOut meld alone asked old new × IsTrue (is_shrink (polled_by old.own asked))
EndsAs meld alone asked old reply false new = Calls meld alone asked old reply new

-- the same, where the reply itself says which of the two it was
abbrev pub EndsReply : {P : Type 0} → (P → P → P) → Bool → Call P → Local P → Reply P → Local P → Type 0
EndsReply meld alone asked old reply new = EndsAs meld alone asked old reply (wants_memory reply) new

-- a query of the failed group, which puts `count` ranks into a vector or is refused
abbrev pub Gets : {P : Type 0} → (P → P → P) → Bool → Call P → Local P → ℕ → Result (Unit {0}) Refusal → Local P → Type 0
Gets meld alone asked old count (Ok _) new = Calls meld alone asked old (FailedGroup count) new
Gets meld alone asked old count (Err refusal) new = EndsBy meld alone asked old refusal (is_out_of_memory refusal) new
