-- What a pass (one caller's local view of the shared words) has seen, and what each atomic step does to it.
use Rattle.std.specs.Prelude.{◌≡◌, ℕ, ◌+◌, ◌≤◌, ◌<◌, Bool, true, false, IsTrue, List, [], ◌∷◌, ◌++◌, Option, Some, None, Result, Ok, Err}
use Rattle.std.specs.Prelude.{MatchResult, ⊤}
use Rattle.std.specs.List.{All}
use mathlib.Core.List.{IsPrefix}
use Rattle.ulfm_model.specs.declared.{block.Beside.{Beside}, block.Wing.{Wing}, contribution.Slot.{Slot}, event.Entry.{Entry}, event.Event.{Event}, limits.Limits.{Limits}, place.Place.{Place}}
use Rattle.ulfm_model.specs.{History.{History, IsLegal, MayFollow}, Runs.{Did}, Words.{MayOpen, half_of, place_of, slot_wing, word_at, word_of}}
use Rattle.ulfm_model.specs.Blocks.{has_wing}
use Rattle.ulfm_words.specs.declared.{step.Last.{Last}, step.Site.{Site}, step.Step.{Step}}
use Rattle.ulfm_words.specs.Entries.{entry_of}

-- the identity of a world's words: numbers that tell them from another world's, and the limits that they were opened with
pub record Name : Type 0 where
  pub number : ℕ
  pub log : ℕ
  pub cells : ℕ
  pub limits : Limits

-- A pass, one caller's local view: which words made it, what it has seen of the history, and which words it knows to be set that no event sets: those
-- of blocks (a block is a word that memoizes what several members of a round say), and wings (the second word of a slot or a block, with the
-- upper half of its payload). Besides: where it tried to set such words, its atomic steps in all, and the last of them.
pub record Sight (P : Type 0) : Type 0 where
  pub name : Name
  pub seen : History P
  pub cached : List Beside
  pub caches : List Site
  pub steps : ℕ
  pub last : Option Last

-- a told value, which one pass hands to another: whose words' pass told it, what that pass had seen, and which words beside it knew to be set
pub record Heard (P : Type 0) : Type 0 where
  pub name : Name
  pub seen : History P
  pub cached : List Beside

-- the words that a caller calls over: their identity, and how a flag is packed into them
pub record Over (P : Type 0) : Type 0 where
  pub number : ℕ
  pub log : ℕ
  pub cells : ℕ
  pub limits : Limits
  pub pack : P → ℕ

abbrev pub over : {P : Type 0} → (P → ℕ) → Name → Over P
over pack name = record { number = name.number; log = name.log; cells = name.cells; limits = name.limits; pack = pack }

-- the identity of these words
abbrev pub name_in : {P : Type 0} → Over P → Name
name_in words = record { number = words.number; log = words.log; cells = words.cells; limits = words.limits }

-- a caller's view: over which words it calls, and its pass
pub record View (P : Type 0) : Type 0 where
  pub words : Over P
  pub pass : Sight P

abbrev pub view_at : {P : Type 0} → Over P → Sight P → View P
view_at words pass = record { words = words; pass = pass }

-- the view over words of this identity, with flags that are packed so
abbrev pub view_of : {P : Type 0} → (P → ℕ) → Name → Sight P → View P
view_of pack name pass = view_at (over pack name) pass

-- the limits that a view's words were opened with
abbrev pub limits_in : {P : Type 0} → View P → Limits
limits_in view = view.words.limits

-- the history that a view's pass has seen
abbrev pub seen_in : {P : Type 0} → View P → History P
seen_in view = view.pass.seen

-- the blocks and the wings that a view's pass knows to be set
abbrev pub cached_in : {P : Type 0} → View P → List Beside
cached_in view = view.pass.cached

-- how many atomic steps a view's pass has made
abbrev pub steps_in : {P : Type 0} → View P → ℕ
steps_in view = view.pass.steps

-- a view's pass was made by the view's own words
abbrev pub IsOwnPass : {P : Type 0} → View P → Type 0
IsOwnPass view = view.pass.name ≡ name_in view.words

-- a view's pass was made by the view's own words, whose limits may be opened, and what the pass has seen is a legal history
pub record IsView {P : Type 0} (meld : P → P → P) (view : View P) : Type 0 where
  pub name_is : view.pass.name ≡ name_in view.words
  pub may_open : MayOpen view.words.limits
  pub legal : IsLegal meld view.words.limits view.pass.seen

-- the view of a pass that has seen nothing
pub record IsNew {P : Type 0} (meld : P → P → P) (view : View P) : Type 0 where
  pub of : IsView meld view
  pub seen : view.pass.seen ≡ []
  pub cached : view.pass.cached ≡ []
  pub caches : view.pass.caches ≡ []
  pub steps : view.pass.steps ≡ 0
  pub last : view.pass.last ≡ None

-- a word is of a block: its own, or its wing
abbrev pub IsOfBlock : Site → Type 0
IsOfBlock (Site.Place place) = ⊥
IsOfBlock (Site.Block block) = ⊤
IsOfBlock (Site.Wing (Wing.Slot c k r)) = ⊥
IsOfBlock (Site.Wing (Wing.Block block)) = ⊤

-- further exchanges of words that no event sets: each of them of such a word
pub record TriesFurther (May : Site → Type 0) (old new : List Site) : Type 0 where
  pub more : List Site
  pub is : new ≡ old ++ more
  pub each : All May more

-- .. of blocks' alone, or none
abbrev pub TriesBlocks : Bool → List Site → List Site → Type 0
TriesBlocks true old new = TriesFurther IsOfBlock old new
TriesBlocks false old new = new ≡ old

-- At most `most` atomic steps that make no event. Exchanges of blocks' words and of their wings are among them only where `caching` says so; others'
-- events may have come in between.
pub record Goes {P : Type 0} (meld : P → P → P) (alone caching : Bool) (most : ℕ) (old new : View P) : Type 0 where
  pub of : IsView meld new
  pub did : Did alone [] old.pass.seen new.pass.seen
  pub cached : IsPrefix old.pass.cached new.pass.cached
  pub caches : TriesBlocks caching old.pass.caches new.pass.caches
  pub onward : old.pass.steps ≤ new.pass.steps
  pub steps : new.pass.steps ≤ old.pass.steps + most

-- one atomic load of the word at a place
pub record Loads {P : Type 0} (meld : P → P → P) (pack : P → ℕ) (alone : Bool) (place : Place) (old new : View P) : Type 0 where
  pub of : IsView meld new
  pub did : Did alone [] old.pass.seen new.pass.seen
  pub cached : IsPrefix old.pass.cached new.pass.cached
  pub caches : new.pass.caches ≡ old.pass.caches
  pub steps : new.pass.steps ≡ old.pass.steps + 1
  pub last : new.pass.last ≡ Some (record { at = Site.Place place; word = word_at pack new.pass.seen place; load = true })

-- When a caller may try an exchange: the step is that of an event. This event may come next, and sets the step's place, in each legal history that
-- goes on from what was seen and in which the word is still 0.
pub record MaySet {P : Type 0} (meld : P → P → P) (pack : P → ℕ) (unpack : ℕ → Option P) (limits : Limits) (seen : History P) (s : Step) : Type 0 where
  pub entry : Entry P
  pub is_entry : entry_of unpack s ≡ Some entry
  pub word : word_of pack entry.event ≡ s.word
  pub half : half_of pack entry.event ≡ s.half
  pub legal : (more : History P) → IsPrefix seen more → IsLegal meld limits more → word_at pack more s.place ≡ 0
      → MayFollow meld limits more entry.event × (place_of more entry.event ≡ s.place)

-- the event came last, after what had been seen and events by others
pub record IsAdded {P : Type 0} (alone : Bool) (entry : Entry P) (old new : History P) : Type 0 where
  pub before : History P
  pub did : Did alone [] old before
  pub is : new ≡ before ++ entry ∷ []

-- the exchange succeeded: the step's event came last, and the word at the place is the step's
pub record Wins {P : Type 0} (pack : P → ℕ) (unpack : ℕ → Option P) (alone : Bool) (s : Step) (old new : History P) : Type 0 where
  pub entry : Entry P
  pub is_entry : entry_of unpack s ≡ Some entry
  pub added : IsAdded alone entry old new
  pub stands : word_at pack new s.place ≡ s.word

-- the exchange failed: the place had this word already, and no event of the caller's came
pub record Loses {P : Type 0} (pack : P → ℕ) (alone : Bool) (place : Place) (w : ℕ) (old new : History P) : Type 0 where
  pub some : 0 < w
  pub stands : word_at pack new place ≡ w
  pub did : Did alone [] old new

-- what an exchange gives: nothing where it succeeded, or the word that it found
abbrev pub Exchanged : Type 0
Exchanged = Result (Unit {0}) ℕ

-- the word that an exchange found: 0 where it succeeded
abbrev pub found : Exchanged → ℕ
found (Ok _) = 0
found (Err w) = w

-- how flags are put into words, and read from them
pub record Coding (P : Type 0) : Type 0 where
  pub pack : P → ℕ
  pub unpack : ℕ → Option P

abbrev pub coding : {P : Type 0} → (P → ℕ) → (ℕ → Option P) → Coding P
coding pack unpack = record { pack = pack; unpack = unpack }

-- the caller of a view may try an exchange of this step
abbrev pub MaySetIn : {P : Type 0} → (P → P → P) → Coding P → View P → Step → Type 0
MaySetIn meld by view s = MaySet meld by.pack by.unpack view.words.limits view.pass.seen s

-- where an event is a contribution, its own wing is known to be set, to its own half
abbrev pub IsWinged : {P : Type 0} → (P → ℕ) → List Beside → Event P → Type 0
IsWinged pack cached (Event.Fail rank) = ⊤
IsWinged pack cached (Event.Settle c k r given) = has_wing cached (Wing.Slot c k r) (slot_wing pack (Slot.Given given)) ≡ true
IsWinged pack cached (Event.Mark c k r mark) = ⊤
IsWinged pack cached (Event.Arrive c k r) = ⊤
IsWinged pack cached (Event.Revoke c) = ⊤
IsWinged pack cached (Event.Spawn j c k) = ⊤

-- so it is of the event of a step, as the view's pass knows
abbrev pub IsWingedIn : {P : Type 0} → Coding P → View P → Step → Type 0
IsWingedIn {P} by view s = (entry : Entry P) → entry_of by.unpack s ≡ Some entry → IsWinged by.pack view.pass.cached entry.event

-- one compare-exchange of the word at a place, from 0
pub record Sets {P : Type 0} (meld : P → P → P) (by : Coding P) (alone : Bool) (s : Step) (old : View P) (result : Exchanged) (new : View P) : Type 0 where
  pub of : IsView meld new
  pub outcome : MatchResult result (λ _. Wins by.pack by.unpack alone s old.pass.seen new.pass.seen)
      (λ w. Loses by.pack alone s.place w old.pass.seen new.pass.seen)
  pub cached : IsPrefix old.pass.cached new.pass.cached
  pub caches : new.pass.caches ≡ old.pass.caches
  pub steps : new.pass.steps ≡ old.pass.steps + 1
  pub last : new.pass.last ≡ Some (record { at = Site.Place s.place; word = found result; load = false })

-- a pass tells a value: it is a beginning of what the pass has seen and knows, and all of that where these words tell all
pub record Tells {P : Type 0} (tells_all : Bool) (view : View P) (told : Heard P) : Type 0 where
  pub name_is : told.name ≡ name_in view.words
  pub seen : IsPrefix told.seen view.pass.seen
  pub cached : IsPrefix told.cached view.pass.cached
  pub all : IsTrue tells_all → (told.seen ≡ view.pass.seen) × (told.cached ≡ view.pass.cached)

-- a told value is of a view's own words
abbrev pub IsOwnTold : {P : Type 0} → View P → Heard P → Type 0
IsOwnTold view told = told.name ≡ name_in view.words

-- a pass learns a told value, without an atomic step: what it has seen and knows then begins with what was told
pub record Learns {P : Type 0} (meld : P → P → P) (alone : Bool) (told : Heard P) (old new : View P) : Type 0 where
  pub of : IsView meld new
  pub did : Did alone [] old.pass.seen new.pass.seen
  pub hears : IsPrefix told.seen new.pass.seen
  pub cached : IsPrefix old.pass.cached new.pass.cached
  pub caches : new.pass.caches ≡ old.pass.caches
  pub hears_cached : IsPrefix told.cached new.pass.cached
  pub steps : new.pass.steps ≡ old.pass.steps
  pub last : new.pass.last ≡ old.pass.last
