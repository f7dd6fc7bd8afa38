-- What a reply tells of its round, in a history; and the replies of a rank that agrees round after round and then shrinks.
use Rattle.std.specs.Prelude.{◌≡◌, ◌⊎◌, ℕ, ◌+◌, ◌-◌, ◌<◌, ◌≤◌, Bool, List, [], ◌∷◌, ◌++◌, length, slice_get, Some, IsTrue}
use Rattle.ulfm_laws.specs.declared.{summary.Body.{Body}, summary.CtxMask.{CtxMask}}
use Rattle.ulfm_model.specs.declared.{contribution.Contribution.{Contribution}, contribution.Offer.{Offer}, contribution.Slot.{Slot}}
use Rattle.ulfm_model.specs.declared.{limits.Limits.{Limits}, refusal.Refusal.{Refusal}, reply.Reply.{Reply}}
use Rattle.ulfm_model.specs.History.{History, decision, failures, has, is_decided, members, slot, spawns}
use Rattle.ulfm_model.specs.Records.{IsContext}

-- rank r contributed this flag to round k of communicator c
pub record Gave {P : Type 0} (h : History P) (c k r : ℕ) (flag : P) : Type 0 where
  pub given : Contribution P
  pub stands : slot h c k r ≡ Some (Slot.Given given)
  pub flag_is : given.offer ≡ Offer.Flag flag

-- the reply is what round k decided: the flags combined, the size of the failed group, and the error
pub record IsDecision {P : Type 0} (meld : P → P → P) (limits : Limits) (h : History P) (c k : ℕ) (reply : Reply P) : Type 0 where
  pub decided : IsTrue (is_decided limits.ranks h c k)
  pub value : P
  pub body : (decision meld limits.ranks h c k).body ≡ Body.Flag value
  pub reply_is : reply ≡ Reply.Agreed (decision meld limits.ranks h c k).raised (length (decision meld limits.ranks h c k).failed) value

-- the reply is the communicator that was made of round k, with its context id and its size, and rank r is a member of it
pub record IsMadeOf {P : Type 0} (meld : P → P → P) (limits : Limits) (h : History P) (c k r : ℕ) (reply : Reply P) : Type 0 where
  pub decided : IsTrue (is_decided limits.ranks h c k)
  pub comm : ℕ
  pub above : 0 < comm
  pub made : slice_get (spawns h) (comm - 1) ≡ Some (c, k)
  pub context : ℕ
  pub context_is : IsContext meld limits.ranks h comm context
  pub member : IsTrue (has (members limits.ranks h comm) r)
  pub reply_is : reply ≡ Reply.Shrunk comm context (length (members limits.ranks h comm))

-- What a refusal of an agree or a shrink means, in this round of this communicator: rank r is declared; its place has another contribution, or its
-- place's wing was set, of which no history tells; some agreed and others shrank; no context id was free at all; there is no room for a
-- communicator. No other refusal ends either.
abbrev pub IsReason : {P : Type 0} → (P → P → P) → Limits → History P → ℕ × ℕ → ℕ → Bool → Refusal → Type 0
IsReason meld limits h at r spread Refusal.SelfFailed = IsTrue (has (failures h) r)
IsReason {P} meld limits h at r spread Refusal.Twice =
    ((given : Contribution P) × (slot h at.0 at.1 r ≡ Some (Slot.Given given))) ⊎ IsTrue spread
IsReason meld limits h at r spread Refusal.Mismatch =
    IsTrue (is_decided limits.ranks h at.0 at.1) × ((decision meld limits.ranks h at.0 at.1).body ≡ Body.Clash)
IsReason meld limits h at r spread Refusal.NoContext =
    IsTrue (is_decided limits.ranks h at.0 at.1) × ((mask : CtxMask) × ((decision meld limits.ranks h at.0 at.1).body ≡ Body.Ctx mask) × (mask.bits ≡ 0))
IsReason meld limits h at r spread Refusal.NoRoom = length (spawns h) + 1 ≡ limits.comms
IsReason meld limits h at r spread Refusal.NoSuchComm = ⊥
IsReason meld limits h at r spread Refusal.Busy = ⊥
IsReason meld limits h at r spread Refusal.ShrinkOpen = ⊥
IsReason meld limits h at r spread Refusal.RoundsUsedUp = ⊥
IsReason meld limits h at r spread Refusal.Idle = ⊥
IsReason meld limits h at r spread Refusal.IsRevoked = ⊥
IsReason meld limits h at r spread Refusal.ProcFailed = ⊥
IsReason meld limits h at r spread Refusal.WorldKept = ⊥
IsReason meld limits h at r spread Refusal.NoSuchRank = ⊥
IsReason meld limits h at r spread Refusal.OutOfMemory = ⊥

-- the reply is a refusal, and there is its reason; whether a wing was it is told beside the history
pub record IsRefusal {P : Type 0} (meld : P → P → P) (limits : Limits) (h : History P) (c k r : ℕ) (reply : Reply P) : Type 0 where
  pub refusal : Refusal
  pub reply_is : reply ≡ Reply.Refused refusal
  pub spread : Bool
  pub reason : IsReason meld limits h (c, k) r spread refusal

-- the replies to agrees, one for each round from the first: each is its round's decision, and rank r contributed its flag
abbrev pub AreAgreed : {P : Type 0} → (P → P → P) → Limits → History P → ℕ → (ℕ → P) → ℕ → List (Reply P) → Type 0
AreAgreed {P} meld limits h c flag r agreed =
    (k : ℕ) (reply : Reply P) → slice_get agreed k ≡ Some reply → IsDecision meld limits h c k reply × Gave h c k r (flag k)

-- what a rank does on a communicator: so many agrees, with this flag in each round, and then a shrink
pub record Series (P : Type 0) : Type 0 where
  pub comm : ℕ
  pub rounds : ℕ
  pub flag : ℕ → P

abbrev pub series : {P : Type 0} → ℕ → ℕ → (ℕ → P) → Series P
series c rounds flag = record { comm = c; rounds = rounds; flag = flag }

-- What rank r was answered in that: the replies to the agrees, and last the shrink's; or a beginning of these, and last a refusal.
pub record AreRoundReplies {P : Type 0} (meld : P → P → P) (limits : Limits) (h : History P) (does : Series P) (r : ℕ) (replies : List (Reply P)) : Type 0 where
  pub agreed : List (Reply P)
  pub last : Reply P
  pub all : replies ≡ agreed ++ last ∷ []
  pub few : length agreed ≤ does.rounds
  pub each : AreAgreed meld limits h does.comm does.flag r agreed
  pub ends : IsRefusal meld limits h does.comm (length agreed) r last
      ⊎ ((length agreed ≡ does.rounds) × IsMadeOf meld limits h does.comm does.rounds r last)
