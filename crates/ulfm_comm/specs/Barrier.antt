-- The poll of a barrier: who has arrived, and whether the communicator is revoked.
use Rattle.std.specs.Prelude.{◌≡◌, ◌⊎◌, ℕ, [], Some}
use Rattle.ulfm_model.specs.declared.{call.Call.{Call}, call.Request.TheVariants.{Barrier}, limits.Limits.{Limits}}
use Rattle.ulfm_model.specs.declared.{refusal.Refusal.TheVariants.{IsRevoked, ProcFailed}, reply.Reply.{Reply}}
use Rattle.ulfm_model.specs.declared.reply.Reply.TheVariants.{Pending, Refused, Done}
use Rattle.ulfm_model.specs.{History.{History, IsLegal}, Records.{Fits, Held, Moment, Record, held_at, moment}, Runs.{Did}, Answers.{closed}}
use Rattle.ulfm_steps.specs.Arriving.{MissingAre}
use Rattle.ulfm_steps.specs.declared.{arrivals.Missing.{Missing}, arrivals.Missing.TheVariants.{Nobody, Others, Declared}}
use Rattle.ulfm_comm.specs.{Ends.{IsEndRun}, Local.{Frame}, Look.{HoldsSince}}

-- a rank that has a barrier open in this round
pub record Awaits {P : Type 0} (meld : P → P → P) (limits : Limits) (h : History P) (c k : ℕ) (own : Record) : Type 0 where
  pub fits : Fits meld limits h own
  pub x : Held
  pub held : held_at own c ≡ Some x
  pub open_is : x.request ≡ Some (Barrier k)

-- what the poll answers where the communicator isn't revoked
abbrev pub missing_reply : {P : Type 0} → Missing → Reply P
missing_reply Nobody = Done
missing_reply Others = Pending
missing_reply Declared = Refused ProcFailed

-- what that leaves of the record
abbrev pub missing_leaves : Record → ℕ → Missing → Record
missing_leaves own c Nobody = closed own c
missing_leaves own c Others = own
missing_leaves own c Declared = closed own c

-- The poll of a barrier has looked; since then there were others' events alone.
pub record IsWaiting {P : Type 0} (by : Frame P) (c k : ℕ) (x : Held) (start now : Moment P) : Type 0 where
  pub since : HoldsSince by c x start now.own
  pub legal : IsLegal by.meld by.limits since.look
  pub open_is : x.request ≡ Some (Barrier k)
  pub waited : Did by.alone [] since.look now.seen

-- The poll of a barrier is about to load the revocation: who was missing was found when this had been seen.
pub record IsChecking {P : Type 0} (by : Frame P) (c : ℕ) (missing : Missing) (earlier : History P) (start now : Moment P) : Type 0 where
  pub x : Held
  pub k : ℕ
  pub waits : IsWaiting by c k x start (moment now.own earlier)
  pub are : MissingAre earlier c k x.group now.own.seen missing
  pub legal : IsLegal by.meld by.limits earlier
  pub waited : Did by.alone [] earlier now.seen

-- where nobody was missing, the poll is answered so; where somebody was, that is when it is answered; unless it finds a revocation
abbrev pub AnswersEarly : {P : Type 0} → Frame P → Call P → Missing → Moment P → Reply P → Moment P → Type 0
AnswersEarly by asked missing start reply found =
    ((missing ≡ Nobody) × (reply ≡ Done)) ⊎ ((reply ≡ Refused IsRevoked) ⊎ IsEndRun by.meld by.limits by.alone start asked reply found)
