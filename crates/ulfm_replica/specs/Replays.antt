-- What a log's entry does to words and tables that are replayed from it.
use Rattle.std.specs.Prelude.{◌≡◌, ℕ, ◌≤◌, Bool, List, [], ◌∷◌, ◌++◌, MatchBool, Some, if◌then◌else◌}
use Rattle.std.specs.List.{Contains}
use Rattle.ulfm_model.specs.declared.{block.Wing.{Wing}, contribution.Slot.{Slot}, event.Entry.{Entry}, event.Event.{Event}, limits.Limits.{Limits}}
use Rattle.ulfm_model.specs.{History.{History, MayFollow, slot}, Words.{half_of, place_of, word_of}}
use Rattle.ulfm_numbers.specs.{declared.numbers.Numbers.{Numbers}, Telling.{TablesTell}}
use Rattle.ulfm_words.specs.{Steps.{IsView, IsWinged, View}, declared.{step.Site.{Site}, step.Step.{Step}}}
use mathlib.Core.List.{IsPrefix}

-- each place whose wing the pass tried to set is settled; it is as in ulfm_comm, on which this crate need not stand
abbrev pub WingsSettled : {P : Type 0} → View P → Type 0
WingsSettled {P} view = (c k r : ℕ) → Contains view.pass.caches (Site.Wing (Wing.Slot c k r)) → (put : Slot P) × (slot view.pass.seen c k r ≡ Some put)

-- the step of an entry after a history
abbrev pub step_after : {P : Type 0} → (P → ℕ) → History P → Entry P → Step
step_after pack h e = record { place = place_of h e.event; word = word_of pack e.event; half = half_of pack e.event; by = e.by }

-- an entry that may come next has come; any other is left out
abbrev pub Feeds : {P : Type 0} → (P → P → P) → Limits → Entry P → Bool → History P → History P → Type 0
Feeds meld limits e taken old new =
    MatchBool taken (MayFollow meld limits old e.event × (new ≡ old ++ e ∷ [])) ((MayFollow meld limits old e.event → ⊥) × (new ≡ old))

-- what a log makes of a history, entry by entry, where this is what one entry makes of one, whether it is taken or left out
abbrev pub LogMakes : {E H : Type 0} → (E → Bool → H → H → Type 0) → H → List E → H → Type 0
LogMakes Makes h [] new = new ≡ h
LogMakes {H = H} Makes h (e ∷ log) new = (taken : Bool) × (mid : H) × Makes e taken h mid × LogMakes Makes mid log new

-- what a log makes of a history: each entry that may come next, in the log's order, and no other
abbrev pub Replays : {P : Type 0} → (P → P → P) → Limits → History P → List (Entry P) → History P → Type 0
Replays meld limits h log new = LogMakes (Feeds meld limits) h log new

-- the wing that is tried before an event's word: a contribution's own
abbrev pub wings_of : {P : Type 0} → Event P → List Site
wings_of (Event.Settle c k r given) = Site.Wing (Wing.Slot c k r) ∷ []
wings_of _ = []

-- the wing of a contribution is set to its own half, and nothing else came
pub record SpreadsFor {P : Type 0} (meld : P → P → P) (event : Event P) (old new : View P) : Type 0 where
  pub of : IsView meld new
  pub seen : new.pass.seen ≡ old.pass.seen
  pub winged : IsWinged new.words.pack new.pass.cached event
  pub cached : IsPrefix old.pass.cached new.pass.cached
  pub caches : new.pass.caches ≡ old.pass.caches ++ wings_of event
  pub onward : old.pass.steps ≤ new.pass.steps

-- what one entry did to a view's pass, where it was taken and where it was left out
pub record IsFed {P : Type 0} (meld : P → P → P) (e : Entry P) (taken : Bool) (old new : View P) : Type 0 where
  pub feeds : Feeds meld old.words.limits e taken old.pass.seen new.pass.seen
  pub cached : IsPrefix old.pass.cached new.pass.cached
  pub caches : new.pass.caches ≡ old.pass.caches ++ (if taken then wings_of e.event else [])
  pub onward : old.pass.steps ≤ new.pass.steps

-- a view's pass and tables stand for one history, and no wing of the pass stands without its place
pub record AreReplayed {P A : Type 0} {g : _} {k : _} (meld : P → P → P) (view : View P) (numbers : Numbers P A g k) : Type 0 where
  pub of : IsView meld view
  pub tells : TablesTell view.words.limits.ranks numbers view.pass.seen
  pub wings : WingsSettled view
