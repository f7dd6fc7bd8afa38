-- What a call that waits promises, if it returns.
use Rattle.std.specs.Prelude.{◌≡◌, ◌⊎◌, ℕ, zero, suc, Bool, Some, IfOk, Result, Ok, Err}
use Rattle.ulfm_model.specs.declared.{call.Call.{Call}, limits.Limits.{Limits}, refusal.Refusal.{Refusal}, reply.Reply.{Reply}}
use Rattle.ulfm_model.specs.{History.{History}, Records.{Held, Record, held_at}}
use Rattle.ulfm_words.specs.Steps.{view_at, Sight, View}
use Rattle.ulfm_comm.specs.{Calls.{Calls}, Polls.{IsNotPending, PollIs, polled}}
use Rattle.ulfm_comm.specs.declared.calls.polled.Polled.{Polled}
use Rattle.ulfm_comm.specs.Local.{Local, local}
use Rattle.ulfm_wait.specs.Members.{IsMember, MemberCalls, MemberPolls, Membership, Setting}
use Rattle.ulfm_model.specs.Rounds.{Gave, IsDecision, IsMadeOf}

-- polls of communicator c by a rank, from what it goes by: so many are pending, and then one is answered
abbrev pub PollsUntil : {P : Type 0} → (P → P → P) → Bool → ℕ → ℕ → Local P → Result (Polled P) Refusal → Local P → Type 0
PollsUntil meld alone c zero old result new = IfOk result IsNotPending × PollIs meld alone (Call.Poll old.own.number c) old result new
PollsUntil {P} meld alone c (suc pending) old result new =
    (mid : Record) × (then : Sight P) × Calls meld alone (Call.Poll old.own.number c) old Reply.Pending (local mid (view_at new.view.words then))
    × PollsUntil meld alone c pending (local mid (view_at new.view.words then)) result new

-- polls of a rank go on until one is answered
abbrev pub IsPolledOn : {P : Type 0} → (P → P → P) → Bool → ℕ → Local P → Result (Polled P) Refusal → Local P → Type 0
IsPolledOn meld alone c old result new = (pending : ℕ) × PollsUntil meld alone c pending old result new

-- a rank's call started a request, and then polls of the rank went on until one was answered
pub record IsAwaited {P : Type 0} (meld : P → P → P) (alone : Bool) (c : ℕ) (asked : Call P) (old : Local P) (result : Result (Polled P) Refusal)
    (new : Local P) : Type 0 where
  pub own : Record
  pub at : Sight P
  pub starts : Calls meld alone asked old Reply.Started (local own (view_at new.view.words at))
  pub polls : IsPolledOn meld alone c (local own (view_at new.view.words at)) result new

-- polls of a member on communicator c, each in no more steps than it may make: so many are pending, and then one is answered
abbrev pub MemberPollsUntil : {P : Type 0} → Setting P → ℕ → ℕ → Membership P → Result (Polled P) Refusal → Membership P → Type 0
MemberPollsUntil setting c zero old result new = IfOk result IsNotPending × MemberPolls setting c old result new
MemberPollsUntil {P} setting c (suc pending) old result new =
    (mid : Membership P) × MemberPolls setting c old (Ok Polled.Pending) mid × MemberPollsUntil setting c pending mid result new

-- polls of a member go on until one is answered
abbrev pub MemberPollsOn : {P : Type 0} → Setting P → ℕ → Membership P → Result (Polled P) Refusal → Membership P → Type 0
MemberPollsOn setting c old result new = (pending : ℕ) × MemberPollsUntil setting c pending old result new

-- a member whose start was answered so polls on until one poll is answered, or has the start's refusal for its answer and is as it was
abbrev pub MemberPollsFrom : {P : Type 0} → Setting P → ℕ → Result (Unit {0}) Refusal → Membership P → Result (Polled P) Refusal → Membership P → Type 0
MemberPollsFrom setting c (Ok _) old result new = MemberPollsOn setting c old result new
MemberPollsFrom setting c (Err refusal) old result new = (result ≡ Err refusal) × (new ≡ old)

-- the member started a request, and then polled until one poll was answered
pub record MemberAwaits {P : Type 0} (setting : Setting P) (c : ℕ) (asked : Call P) (old : Membership P)
    (result : Result (Polled P) Refusal) (new : Membership P) : Type 0 where
  pub mid : Membership P
  pub starts : MemberCalls setting asked old Reply.Started mid
  pub polls : MemberPollsOn setting c mid result new

-- so it did, or its start was refused
abbrev pub MemberRuns : {P : Type 0} → Setting P → ℕ → Call P → Membership P → Result (Polled P) Refusal → Membership P → Type 0
MemberRuns setting c asked old (Ok reply) new = MemberAwaits setting c asked old (Ok reply) new
MemberRuns setting c asked old (Err refusal) new =
    MemberCalls setting asked old (Reply.Refused refusal) new ⊎ MemberAwaits setting c asked old (Err refusal) new

-- A call of a member that waits: whatever it answers, it is a member of the same words still, and the start and each poll made no
-- more steps than they may make.
pub record MemberWaits {P : Type 0} (setting : Setting P) (c : ℕ) (asked : Call P) (old : Membership P)
    (result : Result (Polled P) Refusal) (new : Membership P) : Type 0 where
  pub words : new.view.words ≡ old.view.words
  pub is : IsMember setting.meld setting.pack new
  pub run : MemberRuns setting c asked old result new

-- what an agree tells that was answered: what the rank's next round decided, to which the rank gave its flag
pub record TellsAgree {P : Type 0} (meld : P → P → P) (limits : Limits) (h : History P) (c : ℕ) (value : P) (old : Record) (reply : Polled P) : Type 0 where
  pub x : Held
  pub held : held_at old c ≡ Some x
  pub decision : IsDecision meld limits h c x.next_agreement (polled reply)
  pub gave : Gave h c x.next_agreement old.number value

-- the same as a view has seen it
abbrev pub AgreeIsTold : {P : Type 0} → (P → P → P) → ℕ → P → Record → View P → Polled P → Type 0
AgreeIsTold meld c value old view reply = TellsAgree meld view.words.limits view.pass.seen c value old reply

-- what a shrink tells that was answered: what was made of the rank's next round, of which the rank is a member
pub record TellsShrink {P : Type 0} (meld : P → P → P) (limits : Limits) (h : History P) (c : ℕ) (old : Record) (reply : Polled P) : Type 0 where
  pub x : Held
  pub held : held_at old c ≡ Some x
  pub made : IsMadeOf meld limits h c x.next_agreement old.number (polled reply)
