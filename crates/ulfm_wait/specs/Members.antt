-- A `Member`, that is a rank of a world with the pass that it calls with, and what its calls promise.
use Rattle.std.specs.Prelude.{◌≡◌, ℕ, Bool, List, Result, IfOk, OnErr}
use Rattle.ulfm_model.specs.declared.{call.Call.{Call}, call.Call.TheVariants.{Poll}, refusal.Refusal.{Refusal}, reply.Reply.{Reply}}
use Rattle.ulfm_model.specs.Records.{Fits, Record, held_at}
use Rattle.ulfm_words.specs.Steps.{Heard, IsNew, IsView, Learns, Name, Sight, View, view_of}
use Rattle.ulfm_comm.specs.{Calls.{Calls, Gets}, Counts.{TakesSteps}, Fails.{Fails}, Misses.{EndsHeld, TellsMissing}, Polls.{EndsIn, Polls}}
use Rattle.ulfm_comm.specs.declared.calls.polled.Polled.{Polled}
use Rattle.ulfm_comm.specs.Local.{Local, local}

-- a caller's view, without how flags are packed: which words it calls over, and its pass
pub record Viewing (P : Type 0) : Type 0 where
  pub words : Name
  pub pass : Sight P

abbrev pub viewing : {P : Type 0} → Name → Sight P → Viewing P
viewing words pass = record { words = words; pass = pass }

-- the view, with flags that are packed so
abbrev pub view_in : {P : Type 0} → (P → ℕ) → Viewing P → View P
view_in pack view = view_of pack view.words view.pass

-- what contracts see of a `Member`: its rank's record, how many steps the rank's last call made, and the view that it calls with
pub record Membership (P : Type 0) : Type 0 where
  pub own : Record
  pub last : ℕ
  pub view : Viewing P

-- the local state of a member's rank
abbrev pub local_of : {P : Type 0} → (P → ℕ) → Membership P → Local P
local_of pack m = local m.own (view_in pack m.view)

-- the local state of a member's rank after a call, over the words that the member had before it
abbrev pub after_call : {P : Type 0} → (P → ℕ) → Membership P → Membership P → Local P
after_call pack old new = local new.own (view_of pack old.view.words new.view.pass)

-- a member's pass is of its words, and its record fits what that pass has seen
pub record IsMember {P : Type 0} (meld : P → P → P) (pack : P → ℕ) (m : Membership P) : Type 0 where
  pub of : IsView meld (view_in pack m.view)
  pub fits : Fits meld m.view.words.limits m.view.pass.seen m.own

-- a member of these words, which has made no call, and whose pass has seen nothing
pub record IsNewMember {P : Type 0} (meld : P → P → P) (pack : P → ℕ) (name : Name) (m : Membership P) : Type 0 where
  pub name_is : m.view.words ≡ name
  pub new : IsNew meld (view_in pack m.view)
  pub last : m.last ≡ 0

-- what a member's calls are over: how contributions are melded and packed, and whether nobody else steps
pub record Setting (P : Type 0) : Type 0 where
  pub meld : P → P → P
  pub pack : P → ℕ
  pub alone : Bool

abbrev pub setting_of : {P : Type 0} → (P → P → P) → (P → ℕ) → Bool → Setting P
setting_of meld pack alone = record { meld = meld; pack = pack; alone = alone }

-- a call of a member: a whole call of its rank, over the same words, in no more atomic steps than the call's bound
pub record MemberCalls {P : Type 0} (setting : Setting P) (asked : Call P) (old : Membership P) (reply : Reply P)
    (new : Membership P) : Type 0 where
  pub words : new.view.words ≡ old.view.words
  pub calls : Calls setting.meld setting.alone asked (local_of setting.pack old) reply (after_call setting.pack old new)
  pub steps : TakesSteps asked (local_of setting.pack old) new.last (after_call setting.pack old new)

-- a member's query of the failed group, which puts `count` ranks into a vector or is refused, within its bound of steps
pub record MemberGets {P : Type 0} (setting : Setting P) (asked : Call P) (old : Membership P) (count : ℕ)
    (result : Result (Unit {0}) Refusal) (new : Membership P) : Type 0 where
  pub words : new.view.words ≡ old.view.words
  pub gets : Gets setting.meld setting.alone asked (local_of setting.pack old) count result (after_call setting.pack old new)
  pub steps : TakesSteps asked (local_of setting.pack old) new.last (after_call setting.pack old new)

-- A member tells who is missing in the round of its open request on communicator c, as its rank tells it, or is refused without a step. Its record,
-- and the steps of its rank's last call, are as they were.
pub record MemberMisses {P : Type 0} (setting : Setting P) (c : ℕ) (old : Membership P) (result : Result (Unit {0}) Refusal)
    (missing : List ℕ) (new : Membership P) : Type 0 where
  pub words : new.view.words ≡ old.view.words
  pub own : new.own ≡ old.own
  pub last : new.last ≡ old.last
  pub ends : EndsHeld (held_at old.own c) result
  pub tells : IfOk result (λ _. TellsMissing setting.meld setting.alone old.own c (view_in setting.pack old.view)
      (view_of setting.pack old.view.words new.view.pass) missing)
  pub kept : OnErr result (new.view.pass ≡ old.view.pass)

-- a member's poll on communicator c, within its bound of steps
pub record MemberPolls {P : Type 0} (setting : Setting P) (c : ℕ) (old : Membership P) (result : Result (Polled P) Refusal)
    (new : Membership P) : Type 0 where
  pub words : new.view.words ≡ old.view.words
  pub polls : Polls setting.meld setting.alone (Poll old.own.number c) (local_of setting.pack old) result (after_call setting.pack old new)
  pub pending : IfOk result (EndsIn setting.meld setting.alone c (local_of setting.pack old) (after_call setting.pack old new))
  pub steps : TakesSteps {P = P} (Poll old.own.number c) (local_of setting.pack old) new.last (after_call setting.pack old new)

-- a declaration through a member, which counts as the outside's and not as a call of the member's rank, and which its pass has seen from then on
pub record MemberFails {P : Type 0} (setting : Setting P) (rank : ℕ) (old : Membership P) (reply : Reply P)
    (new : Membership P) : Type 0 where
  pub words : new.view.words ≡ old.view.words
  pub own : new.own ≡ old.own
  pub last : new.last ≡ old.last
  pub fails : Fails setting.meld setting.alone rank (view_in setting.pack old.view) reply (view_of setting.pack old.view.words new.view.pass)

-- a member learns a told value: its pass has seen what was told from then on, and its record is as it was
pub record MemberLearns {P : Type 0} (setting : Setting P) (told : Heard P) (old new : Membership P) : Type 0 where
  pub words : new.view.words ≡ old.view.words
  pub own : new.own ≡ old.own
  pub last : new.last ≡ old.last
  pub learns : Learns setting.meld setting.alone told (view_in setting.pack old.view) (view_of setting.pack old.view.words new.view.pass)
