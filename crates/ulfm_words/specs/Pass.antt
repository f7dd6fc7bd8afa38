-- How the words and the journal of a plain pass are tied.
use Rattle.std.specs.Prelude.{◌≡◌, ◌≢◌, ℕ, ◌+◌, ◌≤◌, ◌==◌, ◌&&◌, if◌then◌else◌, Bool, List, [], ◌∷◌, length, count_by}
use Rattle.std.specs.Prelude.{slice_get, slice_index, take, filter_map, Option, Some, None}
use Rattle.std.specs.List.{AllByRecursion, Contains}
use Rattle.ulfm_model.specs.declared.{block.Beside.{Beside}, block.Wing.{Wing}, event.Entry.{Entry}}
use Rattle.ulfm_model.specs.declared.{limits.Limits.{Limits}, place.Place.{Place}}
use Rattle.ulfm_model.specs.{History.{History, IsLegal}, Words.{MayOpen, place_of, size_of, word_at, word_of}}
use Rattle.ulfm_words.specs.declared.{plain.Setting.{Setting}, step.Last.{Last}, step.Site.{Site}, step.Step.{Step}}
use Rattle.ulfm_words.specs.{Besides.{AreBeside, written}, Entries.{entry_of}, Rows.{SideWords, block_in, wing_in}, Places.{IsWingWithin, IsWithin, key_in}, Steps.{Name, Sight}}

-- plain words are told apart by their limits alone
abbrev pub plain_name : Limits → Name
plain_name limits = record { number = 0; log = 0; cells = 0; limits = limits }

-- the last step of a trail
abbrev pub last_of : List (Last × Bool) → Option Last
last_of [] = None
last_of (step ∷ []) = Some step.0
last_of (step ∷ next ∷ steps) = last_of (next ∷ steps)

-- what a step knows to be set afterwards: the block that it found set, or set, or the wing that it exchanged
abbrev pub cached_at : Site → ℕ → Bool → Option Beside
cached_at (Site.Place place) word load = None
cached_at (Site.Block block) word load = if load && word == 0 then None else Some (Beside.Block block)
cached_at (Site.Wing wing) word load = if load then None else Some (Beside.Wing wing word)

-- the blocks and the wings that a trail knows to be set
abbrev pub cached_by : List (Last × Bool) → List Beside
cached_by trail = filter_map (λ step. cached_at step.0.at step.0.word step.0.load) trail

-- where a step tried to set a word that no event sets
abbrev pub tried_at : Site → Bool → Option Site
tried_at (Site.Place place) load = None
tried_at (Site.Block block) load = if load then None else Some (Site.Block block)
tried_at (Site.Wing wing) load = if load then None else Some (Site.Wing wing)

-- where the steps of a trail did
abbrev pub caches_in : List (Last × Bool) → List Site
caches_in trail = filter_map (λ step. tried_at step.0.at step.0.load) trail

-- the words that no event sets stand in a row of their own, by what the trail knows of them
abbrev pub AreStood : {P : Type 0} → (P → P → P) → (P → ℕ) → History P → SideWords → List (Last × Bool) → Type 0
AreStood meld pack seen sides trail = AreBeside meld pack (written seen sides.limits (cached_by trail)) (block_in sides) (wing_in sides)

-- each wing that is set was tried by a step of the trail
abbrev pub AreTried : SideWords → List (Last × Bool) → Type 0
AreTried sides trail = (x : Wing) → IsWingWithin sides.limits x → wing_in sides x ≢ 0 → Contains (caches_in trail) (Site.Wing x)

-- a word that was not set
abbrev pub is_zero : ℕ → Bool
is_zero word = word == 0

module _ {P : Type 0} (unpack : ℕ → Option P) (limits : Limits) where
  -- the event of a setting, whose word stands among the words
  abbrev pub entry_at : List ℕ → Setting → Option (Entry P)
  entry_at words setting =
      entry_of unpack (record { place = setting.place; word = slice_index words (key_in limits setting.place); half = setting.half; by = setting.by })

  -- the history of a journal
  abbrev pub entries : List ℕ → List Setting → History P
  entries words journal = filter_map (entry_at words) journal

  -- the world has the place, its word was set, and it is an event's
  pub record IsMade (words : List ℕ) (setting : Setting) : Type 0 where
    pub within : IsWithin limits setting.place
    pub set : slice_index words (key_in limits setting.place) ≢ 0
    pub entry : Entry P
    pub is_entry : entry_at words setting ≡ Some entry

  -- what contracts see of a plain pass
  abbrev pub sight_of : List ℕ → List Setting → List (Last × Bool) → Sight P
  sight_of words journal trail =
      record {
        name = plain_name limits;
        seen = entries words journal;
        cached = cached_by trail;
        caches = caches_in trail;
        steps = length trail;
        last = last_of trail;
      }

-- the words are those of the journal's history, which is legal; no more are set and not set than the world has, and the journal has room
-- for as many
pub record IsTied {P : Type 0} (meld : P → P → P) (pack : P → ℕ) (unpack : ℕ → Option P) (limits : Limits) (words : List ℕ) (journal : List Setting)
    (capacity : ℕ) : Type 0 where
  pub may_open : MayOpen limits
  pub size : size_of limits ≤ length words
  pub made : AllByRecursion (IsMade unpack limits words) journal
  pub same : (p : Place) → IsWithin limits p → slice_index words (key_in limits p) ≡ word_at pack (entries unpack limits words journal) p
  pub legal : IsLegal meld limits (entries unpack limits words journal)
  pub free : length journal + count_by is_zero words ≤ size_of limits
  pub room : size_of limits ≤ capacity

-- the step that set the i-th event of a history, from 0: the place is that of its event after those before it, and the word is its
-- event's
pub record IsNth {P : Type 0} (pack : P → ℕ) (unpack : ℕ → Option P) (h : History P) (i : ℕ) (s : Step) : Type 0 where
  pub entry : Entry P
  pub stands : slice_get h i ≡ Some entry
  pub is_entry : entry_of unpack s ≡ Some entry
  pub place : s.place ≡ place_of (take i h) entry.event
  pub word : s.word ≡ word_of pack entry.event
