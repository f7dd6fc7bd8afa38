-- Polls of two members (values of the type `Member`), one after the other.
use Rattle.std.specs.Prelude.{◌≡◌, ℕ, ◌+◌, ◌-◌, ◌≤◌, Bool, true, Some, Result, length}
use Rattle.ulfm_model.specs.declared.{call.Request.TheVariants.{Agree}, refusal.Refusal.{Refusal}}
use Rattle.ulfm_model.specs.Records.{Held, held_at}
use Rattle.ulfm_words.specs.Steps.{Heard}
use Rattle.ulfm_comm.specs.{Calls.{reply_of}, Polls.{polled}, Requests.{is_of_round}}
use Rattle.ulfm_comm.specs.declared.calls.polled.Polled.{Polled}
use Rattle.ulfm_wait.specs.Members.{MemberLearns, MemberPolls, Membership, Setting}

-- the member has an agree open in round k of communicator c
pub record HasAgree {P : Type 0} (c k : ℕ) (m : Membership P) : Type 0 where
  pub x : Held
  pub held : held_at m.own c ≡ Some x
  pub open_is : x.request ≡ Some (Agree k)

-- the member has learned a value that another told, and then polls
pub record PollsTold {P : Type 0} (setting : Setting P) (tells : Heard P → Type 0) (c : ℕ) (old : Membership P)
    (result : Result (Polled P) Refusal) (new : Membership P) : Type 0 where
  pub told : Heard P
  pub is_told : tells told
  pub mid : Membership P
  pub learns : MemberLearns setting told old mid
  pub polls : MemberPolls setting c mid result new

-- Where the first member's poll of an agree is answered by its round, be it with `Mismatch`, the second member's poll in the same round makes five
-- steps at most, and one more for each failure that this second member has newly seen.
abbrev pub IsShort : {P : Type 0} → ℕ → Membership P → Result (Polled P) Refusal → Membership P → Membership P → Type 0
IsShort c first result second new =
    (k : ℕ) → HasAgree c k first → HasAgree c k second → is_of_round (reply_of polled result) ≡ true
    → new.last ≤ length new.own.seen - length second.own.seen + 5
