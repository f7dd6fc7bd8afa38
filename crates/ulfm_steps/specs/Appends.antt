-- Appending to one of the two lists that fill from the front.
use Rattle.std.specs.Prelude.{◌≡◌, ◌≢◌, ℕ, ◌+◌, ◌-◌, ◌*◌, ◌<◌, ◌≤◌, Bool, not, true, List, [], length, map, Option, Some, None, slice_get, if◌then◌else◌}
use mathlib.Core.List.{IsPrefix}
use Rattle.ulfm_model.specs.declared.{event.Caller.{Caller}, event.Event.{Event}, event.Event.TheVariants.{Fail, Spawn}, limits.Limits.{Limits}}
use Rattle.ulfm_model.specs.declared.{place.Place.{Place}, place.Place.TheVariants.{List as ListAt, Comm as CommAt}}
use Rattle.ulfm_model.specs.{History.{History, IsLegal, MayFollow, failures, spawns}, Runs.{Did}}
use Rattle.ulfm_words.specs.{Steps.{IsAdded, IsView, View}, Tries.{entry}}
use Rattle.ulfm_steps.specs.Turns.{TakesFirst, left_without}
use Rattle.ulfm_steps.specs.declared.{append.Append.{Append}, append.Appended.{Appended}, append.Appended.TheVariants.{Won, Found, Full}, item.Item.{Item}}
use Rattle.ulfm_steps.specs.declared.{item.Item.TheVariants.{Failure, Comm}}

-- the list in which an item stands, in order
abbrev pub items : {P : Type 0} → Item → History P → List Item
items (Failure rank) h = map (λ r. Failure r) (failures h)
items (Comm parent round) h = map (λ made. Comm made.0 made.1) (spawns h)

-- how many places that list has; the world's own communicator has none
abbrev pub room : Item → Limits → ℕ
room (Failure rank) limits = limits.ranks
room (Comm parent round) limits = limits.comms - 1

-- its i-th place, from 0
abbrev pub place_at : Item → ℕ → Place
place_at (Failure rank) i = ListAt i
place_at (Comm parent round) i = CommAt (i + 1)

-- the event that puts the item there
abbrev pub event_at : {P : Type 0} → Item → ℕ → Event P
event_at (Failure rank) i = Fail rank
event_at (Comm parent round) i = Spawn (i + 1) parent round

-- in each legal history that goes on from what was seen, while the list has no such place yet, the item may stand there
abbrev pub MayStand : {P : Type 0} → (P → P → P) → Limits → History P → Item → ℕ → Type 0
MayStand {P} meld limits seen item i = (more : History P) → IsPrefix seen more → IsLegal meld limits more → slice_get (items item more) i ≡ None
    → MayFollow meld limits more (event_at item i) × (length (items item more) ≡ i)

-- .. whose list has room and not this item, the item may come next
abbrev pub MayAppend : {P : Type 0} → (P → P → P) → Limits → History P → Item → Type 0
MayAppend {P} meld limits seen item = (more : History P) → IsPrefix seen more → IsLegal meld limits more → ((j : ℕ) → slice_get (items item more) j ≢ Some item)
    → length (items item more) < room item limits → MayFollow meld limits more (event_at item (length (items item more)))

-- the item may stand at its i-th place, for the caller of a view, while the list has no such place yet
abbrev pub MayStandIn : {P : Type 0} → (P → P → P) → View P → Item → ℕ → Type 0
MayStandIn meld view item i = MayStand meld view.words.limits view.pass.seen item i

-- the item may come next, for the caller of a view, while its list has room and not this item
abbrev pub MayAppendIn : {P : Type 0} → (P → P → P) → View P → Item → Type 0
MayAppendIn meld view item = MayAppend meld view.words.limits view.pass.seen item

-- the first places of the list, so many, have other items
abbrev pub Passed : {P : Type 0} → History P → Item → ℕ → Type 0
Passed h item n = (j : ℕ) → j < n → (x : Item) × (slice_get (items item h) j ≡ Some x) × (x ≢ item)

-- the next place is the caller's; or the item stands at this place; or all places have other items
abbrev pub AppendIs : {P : Type 0} → Bool → Limits → Item → Caller → History P → History P → Appended → Type 0
AppendIs alone limits item by old new (Won i) = IsAdded alone (entry by (event_at item i)) old new × (slice_get (items item new) i ≡ Some item)
AppendIs alone limits item by old new (Found i) = Did alone [] old new × (slice_get (items item new) i ≡ Some item)
AppendIs alone limits item by old new Full = Did alone [] old new × Passed new item (room item limits)

-- what is appended, and in whose name
pub record Wanted : Type 0 where
  pub item : Item
  pub by : Caller

abbrev pub wanted : Item → Caller → Wanted
wanted item by = record { item = item; by = by }

-- so many atomic steps at most led to this end
pub record Appends {P : Type 0} (meld : P → P → P) (alone : Bool) (want : Wanted) (most : ℕ) (old : View P) (result : Appended) (new : View P)
    : Type 0 where
  pub of : IsView meld new
  pub outcome : AppendIs alone new.words.limits want.item want.by old.pass.seen new.pass.seen result
  pub cached : IsPrefix old.pass.cached new.pass.cached
  pub caches : new.pass.caches ≡ old.pass.caches
  pub onward : old.pass.steps ≤ new.pass.steps
  pub steps : new.pass.steps ≤ old.pass.steps + most

-- a communicator's round is one that there is
abbrev pub HasRound : Limits → Item → Type 0
HasRound limits (Failure rank) = Unit {0}
HasRound limits (Comm parent round) = round < limits.rounds

-- how many steps an appending may still take: two for each place that is left, one less after a load that found nothing
abbrev pub turns_left : ℕ → Append → ℕ
turns_left places a = 2 * (places - a.index) - (if a.empty then 1 else 0)

-- the steps of an appending, the first of them at the place that is tried: an exchange after a load that found nothing, or else a load
abbrev pub AppendTakes : {P : Type 0} → Bool → Append → Option Appended → Append → View P → View P → Type 0
AppendTakes whole old end new before after =
    TakesFirst whole (place_at old.item old.index) (not old.empty) (turns_left (room old.item before.words.limits) old)
    (left_without end (turns_left (room old.item before.words.limits) new)) before.pass after.pass

-- an exchange comes next only at a place that was empty in what is seen
abbrev pub FoundEmpty : {P : Type 0} → History P → Append → Type 0
FoundEmpty h a = a.empty ≡ true → slice_get (items a.item h) a.index ≡ None

-- an appending of a view's caller may make a step: its item may come next, and its place is the first that hasn't another item for good
pub record MayGoOn {P : Type 0} (meld : P → P → P) (view : View P) (a : Append) : Type 0 where
  pub of : IsView meld view
  pub may : MayAppendIn meld view a.item
  pub round : HasRound view.words.limits a.item
  pub passed : Passed view.pass.seen a.item a.index
  pub more : a.index < room a.item view.words.limits
