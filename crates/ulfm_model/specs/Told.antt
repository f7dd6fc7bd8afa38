-- The laws of replies, as statements: each is what a function of src/lib.rt ensures.
use Rattle.std.specs.Prelude.{◌≡◌, ◌⊎◌, ℕ, Bool, false, List, [], ◌∷◌, ◌++◌, Some, None, IsTrue, ◌<◌}
use Rattle.std.proofs.Common.{inl, inr}
use mathlib.Core.List.{IsPrefix}
use Rattle.ulfm_model.specs.declared.{call.Call.{Call}, call.Request.{Request}, limits.Limits.{Limits}, refusal.Refusal.{Refusal}, reply.Reply.{Reply}}
use Rattle.ulfm_model.specs.{Answers.{opened, refusal_of}, History.{Exists, History, IsLegal, failures, has}, Records.{Fits, Held, Record, change_at, held_at}}
use Rattle.ulfm_model.specs.Runs.{IsCall}
use Rattle.ulfm_model.specs.Records.{Moment, moment}
use Rattle.ulfm_model.specs.Rounds.{AreRoundReplies, Gave, IsDecision, IsMadeOf, IsReason, series}

-- the reply of a poll that has ended it
abbrev pub IsFinalReply : {P : Type 0} → Reply P → Type 0
IsFinalReply {P} reply =
    ((value : P) × (count : ℕ) × (raised : Bool) × (reply ≡ Reply.Agreed raised count value))
    ⊎ (((j context size : ℕ) × (reply ≡ Reply.Shrunk j context size)) ⊎ (reply ≡ Reply.Done))

-- an agree that started is open in the round that was next, and the rank has given its flag
abbrev pub AgreesOpen : {P : Type 0} → (P → P → P) → Type 0
AgreesOpen {P} meld =
    (limits : Limits) (alone : Bool) (before after : History P) (own new : Record) (c : ℕ) (value : P) (x : Held)
    → Fits meld limits before own → held_at own c ≡ Some x → IsCall meld limits alone (moment own before) (Call.Agree own.number c value) Reply.Started
    (moment new after)
    → (new.held ≡ change_at c (λ y. opened y (Some (Request.Agree y.next_agreement))) own.held) × Gave after c x.next_agreement own.number value

-- a shrink that started is open in the round that was next
abbrev pub ShrinksOpen : {P : Type 0} → (P → P → P) → Type 0
ShrinksOpen {P} meld =
    (limits : Limits) (alone : Bool) (before after : History P) (own new : Record) (c : ℕ) (x : Held)
    → Fits meld limits before own → held_at own c ≡ Some x → IsCall meld limits alone (moment own before) (Call.Shrink own.number c) Reply.Started
    (moment new after)
    → new.held ≡ change_at c (λ y. opened y (Some (Request.Shrink y.next_agreement))) own.held

-- a pending poll leaves what is held
abbrev pub PendingKeeps : {P : Type 0} → (P → P → P) → Type 0
PendingKeeps {P} meld =
    (limits : Limits) (alone : Bool) (before after : History P) (own new : Record) (c : ℕ)
    → IsCall meld limits alone (moment own before) (Call.Poll own.number c) Reply.Pending (moment new after) → new.held ≡ own.held

-- the poll of an agree that is answered tells what its round decided, and the request is closed
abbrev pub AgreesTell : {P : Type 0} → (P → P → P) → Type 0
AgreesTell {P} meld =
    (limits : Limits) (alone : Bool) (before after : History P) (own new : Record) (c k : ℕ) (x : Held) (reply : Reply P)
    → Fits meld limits before own → held_at own c ≡ Some x → x.request ≡ Some (Request.Agree k) → IsFinalReply reply
    → IsCall meld limits alone (moment own before) (Call.Poll own.number c) reply (moment new after)
    → IsDecision meld limits after c k reply × (new.held ≡ change_at c (λ y. record y { request = None }) own.held)

-- the poll of a shrink that is answered tells what was made of its round
abbrev pub ShrinksTell : {P : Type 0} → (P → P → P) → Type 0
ShrinksTell {P} meld =
    (limits : Limits) (alone : Bool) (before after : History P) (own new : Record) (c k : ℕ) (x : Held) (reply : Reply P)
    → Fits meld limits before own → held_at own c ≡ Some x → x.request ≡ Some (Request.Shrink k) → IsFinalReply reply
    → IsCall meld limits alone (moment own before) (Call.Poll own.number c) reply (moment new after)
    → (made : IsMadeOf meld limits after c k own.number reply)
    × ((y : Held) × (y.comm ≡ made.comm) × (new.held ≡ change_at c (λ z. record z { request = None }) own.held ++ y ∷ []))

-- a rank that is refused as self-failed is declared
abbrev pub SelfFailedIsDeclared : {P : Type 0} → (P → P → P) → Type 0
SelfFailedIsDeclared {P} meld =
    (limits : Limits) (alone : Bool) (before after : History P) (own new : Record) (asked : Call P)
    → Fits meld limits before own → IsCall meld limits alone (moment own before) asked (Reply.Refused Refusal.SelfFailed) (moment new after)
    → IsTrue (has (failures after) own.number)

-- whether a call of a rank found the wing of its place set
abbrev pub spread_in : {P : Type 0} {meld : P → P → P} {limits : Limits} {alone : Bool} {start : Moment P} {asked : Call P} {reply : Reply P} {end : Moment P}
    → IsCall meld limits alone start asked reply end → Bool
spread_in (inl refused) = false
spread_in (inr run) = run.span.spread

-- an agree or a shrink that the record doesn't refuse is refused with its reason
abbrev pub StartsRefuse : {P : Type 0} → (P → P → P) → Type 0
StartsRefuse {P} meld =
    (limits : Limits) (alone : Bool) (before after : History P) (own new : Record) (c : ℕ) (x : Held) (asked : Call P) (refusal : Refusal)
    → Fits meld limits before own → held_at own c ≡ Some x
    → ((value : P) × (asked ≡ Call.Agree own.number c value)) ⊎ (asked ≡ Call.Shrink own.number c) → refusal_of own asked ≡ None
    → (called : IsCall meld limits alone (moment own before) asked (Reply.Refused refusal) (moment new after))
    → IsReason meld limits after (c, x.next_agreement) own.number (spread_in called) refusal

-- a poll of either is refused with its reason
abbrev pub PollsRefuse : {P : Type 0} → (P → P → P) → Type 0
PollsRefuse {P} meld =
    (limits : Limits) (alone : Bool) (before after : History P) (own new : Record) (c k : ℕ) (x : Held) (refusal : Refusal)
    → Fits meld limits before own → held_at own c ≡ Some x → (x.request ≡ Some (Request.Agree k)) ⊎ (x.request ≡ Some (Request.Shrink k))
    → IsCall meld limits alone (moment own before) (Call.Poll own.number c) (Reply.Refused refusal) (moment new after)
    → IsReason meld limits after (c, k) own.number false refusal

-- replies stay what they are in every longer legal history
abbrev pub RepliesStay : {P : Type 0} → (P → P → P) → Type 0
RepliesStay {P} meld =
    (limits : Limits) (h longer : History P) (c rounds : ℕ) (flag : ℕ → P) (r : ℕ) (replies : List (Reply P))
    → 0 < limits.comms → Exists h c → IsPrefix h longer → IsLegal meld limits longer
    → AreRoundReplies meld limits h (series c rounds flag) r replies → AreRoundReplies meld limits longer (series c rounds flag) r replies
