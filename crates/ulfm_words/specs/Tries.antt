-- Exchanges, each for one event.
use Rattle.std.specs.Prelude.{◌≡◌, ℕ, ◌+◌, Bool, false, [], length, Option, Some, None, slice_get, if◌then◌else◌, MatchBool}
use mathlib.Core.List.{IsPrefix}
use Rattle.ulfm_model.specs.declared.{contribution.Contribution.{Contribution}, contribution.MarkCount.{MarkCount}, contribution.Slot.{Slot}, event.Caller.{Caller}, event.Entry.{Entry}, event.Event.{Event}}
use Rattle.ulfm_model.specs.declared.{event.Event.TheVariants.{Fail, Arrive, Revoke}, limits.Limits.{Limits}, place.Place.{Place}}
use Rattle.ulfm_model.specs.{History.{History, IsLegal, MayFollow, MaySpawn, failures, has_arrived, is_revoked, slot}, Runs.{Did}, Words.{word_at}}
use Rattle.ulfm_model.specs.Terms.{made_at}
use Rattle.ulfm_words.specs.declared.{accesses.Settled.{Settled}, step.Site.{Site}}
use Rattle.ulfm_words.specs.{Entries.{put_of}, Steps.{IsAdded, IsView, View}}

-- what an exchange is for: this event, whose word it would set at this place
pub record Attempt (P : Type 0) : Type 0 where
  pub place : Place
  pub entry : Entry P

abbrev pub attempt : {P : Type 0} → Place → Entry P → Attempt P
attempt place entry = record { place = place; entry = entry }

-- one exchange: the event came, or others' events alone
pub record Tries {P : Type 0} (meld : P → P → P) (pack : P → ℕ) (alone : Bool) (try : Attempt P) (won : Bool) (old new : View P) : Type 0 where
  pub of : IsView meld new
  pub outcome : MatchBool won (IsAdded alone try.entry old.pass.seen new.pass.seen) (Did alone [] old.pass.seen new.pass.seen)
  pub cached : IsPrefix old.pass.cached new.pass.cached
  pub caches : new.pass.caches ≡ old.pass.caches
  pub steps : new.pass.steps ≡ old.pass.steps + 1
  pub last : new.pass.last
      ≡ Some (record { at = Site.Place try.place; word = if won then 0 else word_at pack new.pass.seen try.place; load = false })

-- a place is settled, by a mark or by a contribution
abbrev pub IsSettledBy : {P : Type 0} → Option (Slot P) → Settled → Type 0
IsSettledBy put Settled.Marked = (mark : MarkCount) × (put ≡ Some (Slot.Mark mark))
IsSettledBy {P} put Settled.Contributed = (given : Contribution P) × (put ≡ Some (Slot.Given given))

abbrev pub entry : {P : Type 0} → Caller → Event P → Entry P
entry by event = record { by = by; event = event }

-- in each legal history that goes on from what was seen, while the next place of the list is this one, the rank may fail
abbrev pub MayDeclare : {P : Type 0} → (P → P → P) → Limits → History P → ℕ → ℕ → Type 0
MayDeclare {P} meld limits seen i r =
    (more : History P) → IsPrefix seen more → IsLegal meld limits more → slice_get (failures more) i ≡ None → MayFollow meld limits more (Fail r)
    × (length (failures more) ≡ i)

-- .. while the member isn't settled, this may settle it
abbrev pub MayPut : {P : Type 0} → (P → P → P) → Limits → History P → ℕ → ℕ → ℕ → Slot P → Type 0
MayPut {P} meld limits seen c k r put =
    (more : History P) → IsPrefix seen more → IsLegal meld limits more → slot more c k r ≡ None → MayFollow meld limits more (put_of c k r put)

-- .. while the communicator isn't made, it may be made of this round
abbrev pub MayMake : {P : Type 0} → (P → P → P) → Limits → History P → ℕ → ℕ → ℕ → Type 0
MayMake {P} meld limits seen j c k =
    (more : History P) → IsPrefix seen more → IsLegal meld limits more → made_at more j ≡ None → MaySpawn meld limits more j c k

-- .. while the member hasn't arrived, it may
abbrev pub MayArrive : {P : Type 0} → (P → P → P) → Limits → History P → ℕ → ℕ → ℕ → Type 0
MayArrive {P} meld limits seen c k r =
    (more : History P) → IsPrefix seen more → IsLegal meld limits more → has_arrived more c k r ≡ false → MayFollow meld limits more (Arrive c k r)

-- .. while the communicator isn't revoked, it may be
abbrev pub MayEnd : {P : Type 0} → (P → P → P) → Limits → History P → ℕ → Type 0
MayEnd {P} meld limits seen c =
    (more : History P) → IsPrefix seen more → IsLegal meld limits more → is_revoked more c ≡ false → MayFollow meld limits more (Revoke c)

-- the caller of a view may declare the rank at this place of the list of failures
abbrev pub MayDeclareIn : {P : Type 0} → (P → P → P) → View P → ℕ → ℕ → Type 0
MayDeclareIn meld view i r = MayDeclare meld view.words.limits view.pass.seen i r

-- .. may settle the member so
abbrev pub MayPutIn : {P : Type 0} → (P → P → P) → View P → ℕ → ℕ → ℕ → Slot P → Type 0
MayPutIn meld view c k r put = MayPut meld view.words.limits view.pass.seen c k r put

-- .. may make the communicator of this round
abbrev pub MayMakeIn : {P : Type 0} → (P → P → P) → View P → ℕ → ℕ → ℕ → Type 0
MayMakeIn meld view j c k = MayMake meld view.words.limits view.pass.seen j c k

-- .. may set the member's arrival
abbrev pub MayArriveIn : {P : Type 0} → (P → P → P) → View P → ℕ → ℕ → ℕ → Type 0
MayArriveIn meld view c k r = MayArrive meld view.words.limits view.pass.seen c k r

-- .. may revoke the communicator
abbrev pub MayEndIn : {P : Type 0} → (P → P → P) → View P → ℕ → Type 0
MayEndIn meld view c = MayEnd meld view.words.limits view.pass.seen c
