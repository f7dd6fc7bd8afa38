-- What marking a round's declared members asks for, and tells.
use Rattle.std.specs.Prelude.{◌≡◌, ◌⊎◌, ℕ, ◌+◌, ◌-◌, ◌<◌, ◌≤◌, Bool, false, not, List, [], ◌++◌, length, filter, take, slice_index, is_some, IsTrue}
use Rattle.std.specs.List.{AllByRecursion}
use mathlib.Core.List.{IsPrefix}
use Rattle.ulfm_model.specs.declared.{contribution.MarkCount.{MarkCount}, event.Caller.TheVariants.{Rank as ByRank}, event.Event.{Event}}
use Rattle.ulfm_model.specs.declared.{event.Event.TheVariants.{Mark}, limits.Limits.{Limits}, place.Place.TheVariants.{Slot as SlotAt}}
use Rattle.ulfm_model.specs.{History.{History, entries_by, failures, has, slot}, Runs.{Did}}
use Rattle.ulfm_model.specs.Terms.{settled_by}
use Rattle.ulfm_words.specs.Steps.{IsAdded, IsView, View}
use Rattle.ulfm_steps.specs.{Among.{Among}, Rounds.{IsRoundOf, RoundOn, round_on}, Turns.{TakesFirst}}
use Rattle.ulfm_steps.specs.declared.blocks.MarkAll.{MarkAll}

-- a mark of one of these ranks in this round
abbrev pub IsMarkOf : {P : Type 0} → ℕ → ℕ → List ℕ → Event P → Type 0
IsMarkOf c k ranks (Mark comm round rank mark) = (comm ≡ c) × (round ≡ k) × IsTrue (has ranks rank)
IsMarkOf c k ranks _ = ⊥

-- With own marks of these ranks alone, in their order, each of them is settled. Where the caller is alone, it has marked
-- just those that were unsettled, and no other rank's place has changed.
pub record Marks {P : Type 0} (alone : Bool) (number c k : ℕ) (ranks : List ℕ) (before after : History P) : Type 0 where
  pub own : List (Event P)
  pub did : Did alone (entries_by (ByRank number) own) before after
  pub marks : AllByRecursion (IsMarkOf c k ranks) own
  pub settled : AllByRecursion (λ r. IsTrue (is_some (slot after c k r))) ranks
  pub exact : IsTrue alone → settled_by own ≡ filter (λ r. not (is_some (slot before c k r))) ranks
  pub others : IsTrue alone → (r : ℕ) → IsTrue (not (has ranks r)) → slot after c k r ≡ slot before c k r

-- one exchange: the rank was marked last, after events by others, or there were others' events alone
abbrev pub MarksOnce : {P : Type 0} → Bool → ℕ → ℕ → ℕ → ℕ → History P → History P → Type 0
MarksOnce alone number c k r old new =
    Did alone [] old new ⊎ ((mark : MarkCount) × IsAdded alone (record { by = ByRank number; event = Mark c k r mark }) old new)

-- one exchange for each of these ranks, at most
pub record MarkSteps {P : Type 0} (meld : P → P → P) (alone : Bool) (number : ℕ) (at : RoundOn) (ranks : List ℕ) (old new : View P) : Type 0 where
  pub of : IsView meld new
  pub marks : Marks alone number at.comm at.round ranks old.pass.seen new.pass.seen
  pub cached : IsPrefix old.pass.cached new.pass.cached
  pub caches : new.pass.caches ≡ old.pass.caches
  pub onward : old.pass.steps ≤ new.pass.steps
  pub steps : new.pass.steps ≤ old.pass.steps + length ranks

-- the round is one of these members', and these ranks are the first that were declared
pub record MayMarkAll {P : Type 0} (limits : Limits) (h : History P) (c k : ℕ) (group declared : List ℕ) : Type 0 where
  pub round : IsRoundOf limits h c k group
  pub begins : IsPrefix declared (failures h)

-- as a view's pass has seen it, the round is one of these members', and these ranks are the first that were declared
abbrev pub MayMarkAllIn : {P : Type 0} → View P → ℕ → ℕ → List ℕ → List ℕ → Type 0
MayMarkAllIn view c k group declared = MayMarkAll view.words.limits view.pass.seen c k group declared

-- the members among the first so many of these ranks
abbrev pub members_in : List ℕ → List ℕ → ℕ → List ℕ
members_in group declared n = filter (has group) (take n declared)

-- the next member among the declared ranks, from one place on; the place past the last rank where there is none
pub record IsNext (group declared : List ℕ) (start at : ℕ) : Type 0 where
  pub onward : start ≤ at
  pub within : at ≤ length declared
  pub none_between : members_in group declared at ≡ members_in group declared start
  pub member : at < length declared → IsTrue (has group (slice_index declared at))

-- the next rank to be marked stands here, after so many members
pub record IsAt (group declared : List ℕ) (at known : ℕ) : Type 0 where
  pub within : at ≤ length declared
  pub member : at < length declared → IsTrue (has group (slice_index declared at))
  pub counted : known ≡ length (members_in group declared at)

-- a marking has come from its place to another: it has marked the members in between
pub record HasMarked {P : Type 0} (meld : P → P → P) (alone : Bool) (start : MarkAll) (ranks : Among) (at : ℕ) (old new : View P) : Type 0 where
  pub between : List ℕ
  pub members_are : members_in ranks.group ranks.declared at ≡ members_in ranks.group ranks.declared start.next ++ between
  pub marks : MarkSteps meld alone start.rank (round_on start.comm start.round) between old new

-- how many members a marking may still mark, from this place on
abbrev pub marks_left : List ℕ → List ℕ → ℕ → ℕ
marks_left group declared at = length (filter (has group) declared) - length (members_in group declared at)

-- the exchanges of a marking, the first of them of the next member's place
abbrev pub MarksTake : {P : Type 0} → Bool → List ℕ → List ℕ → MarkAll → MarkAll → View P → View P → Type 0
MarksTake whole group declared old new before after =
    TakesFirst whole (SlotAt old.comm old.round (slice_index declared old.next)) false (marks_left group declared old.next) (marks_left group declared new.next)
    before.pass after.pass
