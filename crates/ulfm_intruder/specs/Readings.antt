-- What reading a round asks for, and tells.
use Rattle.std.specs.Prelude.{◌≡◌, ℕ, ◌*◌, ◌+◌, ◌-◌, ◌<◌, ◌≤◌, Bool, true, false, List, IfSome, MatchBool, length, is_some, slice_index, take, if◌then◌else◌}
use Rattle.ulfm_model.specs.declared.{block.Wing.{Wing}, place.Place.TheVariants.{Slot as SlotAt}}
use Rattle.ulfm_model.specs.{Blocks.{IsSummed}, History.{slot}}
use Rattle.ulfm_words.specs.{Blocks.{IsFirstOf}, Steps.{Goes, IsView, Sight}, declared.{step.Site.{Site}}}
use Rattle.ulfm_steps.specs.{Rounds.{IsMissing, IsRoundOf}, Turns.{Running, TakesAt}}
use Rattle.ulfm_intruder.specs.declared.read_round.ReadRound.{ReadRound}

-- how far a reading is: two for each member that was read, and one where the next one's first word was loaded
abbrev pub halves_read : {P : Type 0} → ReadRound P → ℕ
halves_read reading = 2 * reading.read + (if is_some reading.first then 1 else 0)

-- how many loads a reading may still make, of a round of these members: two for each
abbrev pub reads_left : {P : Type 0} → List ℕ → ReadRound P → ℕ
reads_left group reading = 2 * length group - halves_read reading

-- the member whose place a reading loads next
abbrev pub next_of : {P : Type 0} → List ℕ → ReadRound P → ℕ
next_of group reading = slice_index group reading.read

-- where a reading's next load is: of the next member's place, or of its wing
abbrev pub read_site : {P : Type 0} → List ℕ → ReadRound P → Site
read_site group reading =
    if is_some reading.first then Site.Wing (Wing.Slot reading.comm reading.round (next_of group reading))
    else Site.Place (SlotAt reading.comm reading.round (next_of group reading))

-- the loads of a reading, the first of them there; none is left once a member was missing
abbrev pub ReadTakes : {P : Type 0} → Bool → List ℕ → ReadRound P → Bool → ReadRound P → Sight P → Sight P → Type 0
ReadTakes whole group old settled new =
    TakesAt whole (read_site group old) true (reads_left group old) (if settled then reads_left group new else 0)

-- where the next member's first word was loaded, that member has contributed, and it is the first word of that
abbrev pub HoldsFirst : {P : Type 0} → List ℕ → Running (ReadRound P) P → Type 0
HoldsFirst group now =
    IfSome now.state.first (λ word. (now.state.read < length group)
    × IsFirstOf now.view.words.pack (slot now.view.pass.seen now.state.comm now.state.round (next_of group now.state)) word)

-- what a reading asks for: the pass is of these words, these are its round's members, and those that were read say this together
pub record MayReadRound {P : Type 0} (meld : P → P → P) (group : List ℕ) (now : Running (ReadRound P) P) : Type 0 where
  pub of : IsView meld now.view
  pub round : IsRoundOf now.view.words.limits now.view.pass.seen now.state.comm now.state.round group
  pub read : IsSummed meld now.view.pass.seen now.state.comm now.state.round (take now.state.read group) now.state.all
  pub first : HoldsFirst group now

-- loads of a reading, as many as were left at most, and whether each member that was loaded is settled: what those say together who were read
pub record ReadsRound {P : Type 0} (meld : P → P → P) (alone whole : Bool) (group : List ℕ) (old : Running (ReadRound P) P) (settled : Bool)
    (new : Running (ReadRound P) P) : Type 0 where
  pub goes : Goes meld alone false (reads_left group old.state) old.view new.view
  pub takes : ReadTakes whole group old.state settled new.state old.view.pass new.view.pass
  pub comm : new.state.comm ≡ old.state.comm
  pub round : new.state.round ≡ old.state.round
  pub read : IsSummed meld new.view.pass.seen old.state.comm old.state.round (take new.state.read group) new.state.all
  pub within : new.state.read ≤ length group
  pub first : HoldsFirst group new
  pub missing : MatchBool settled (Unit {0}) (IsMissing new.view.pass.last new.view.pass.seen old.state.comm old.state.round group)
