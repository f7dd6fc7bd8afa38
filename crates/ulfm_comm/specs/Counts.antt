-- A rank and its calls, with their atomic steps counted.
use Rattle.std.specs.Prelude.{◌≡◌, ◌⊎◌, ℕ, ◌+◌, ◌-◌, ◌≤◌, List, IsTrue, IsFalse, is_some, length, map, min, if◌then◌else◌}
use mathlib.Core.List.{IsPrefix}
use Rattle.ulfm_model.specs.declared.call.Call.{Call}
use Rattle.ulfm_model.specs.declared.limits.Limits.{Limits}
use Rattle.ulfm_model.specs.{History.{failures, has}, Records.{Record, new_record}}
use Rattle.ulfm_words.specs.Steps.{Sight}
use Rattle.ulfm_comm.specs.{Bound.{AlsoBounded, step_bound}, Local.{Local}, Phase.{UnderWay, next_step}, Step.{HasReadOn}, StepsLeft.{left_in, steps_left}}
use Rattle.ulfm_comm.specs.declared.{phases.phase.Next.{Next}, phases.phase.Phase.{Phase}}

-- a rank's record, and how many steps its last call made
pub record Ranked : Type 0 where
  pub own : Record
  pub last : ℕ

abbrev pub ranked : Record → ℕ → Ranked
ranked own last = record { own = own; last = last }

-- a new rank has made no call
abbrev pub new_rank : Limits → ℕ → Ranked
new_rank limits r = ranked (new_record limits r) 0

-- the records of ranks
abbrev pub records_of : List Ranked → List Record
records_of ranks = map (λ r. r.own) ranks

-- a call under way, and how many steps it has made
pub record Counted (P : Type 0) : Type 0 where
  pub way : UnderWay P
  pub made : ℕ

-- `last`, which a whole call leaves as the number of its steps, is how many the pass has made since the call began.
abbrev pub CountsSteps : {P : Type 0} → Sight P → Sight P → ℕ → Type 0
CountsSteps before after last = after.steps ≡ before.steps + last

-- The look of a whole call, its loads of the list of failures, which ends where the pass is `looked`: it makes at most one load for each rank not
-- yet seen to be declared, and at most one that finds no failure. No step follows where it finds its own rank declared; and at the call's end
-- the rank has seen just what its look found, but for the poll of a shrink that read on in the list.
pub record IsLook {P : Type 0} (limits : Limits) (asked : Call P) (old : Record) (before looked : Sight P) (own : Record) (after : Sight P)
    : Type 0 where
  pub begins : IsPrefix before.seen looked.seen × IsPrefix before.cached looked.cached × (before.steps ≤ looked.steps)
  pub goes_on : IsPrefix looked.seen after.seen × IsPrefix looked.cached after.cached × (looked.steps ≤ after.steps)
  pub few : looked.steps ≤ before.steps + (limits.ranks - length old.seen)
  pub found : looked.steps ≤ before.steps + (length (failures looked.seen) - length old.seen) + 1
  pub ends : IsTrue (has (failures looked.seen) old.number) → after ≡ looked
  pub sees : IsFalse old.refused → (own.seen ≡ failures looked.seen) ⊎ HasReadOn old asked (failures looked.seen) own.seen after.cached

-- The steps of a whole call: those of its look, and in all no more than `step_bound` says, nor than `also_bound` says; for the poll of an agree or a
-- shrink the latter only where all blocks of its round are known to be set at the end of the look.
pub record MakesSteps {P : Type 0} (limits : Limits) (asked : Call P) (old : Record) (before : Sight P) (own : Record) (after : Sight P) : Type 0 where
  pub looked : Sight P
  pub look : IsLook limits asked old before looked own after
  pub steps : after.steps ≤ before.steps + step_bound limits old asked
  pub also : AlsoBounded limits asked old before looked own after

-- the same, and `told`, the number of steps that its rank gives out from then on (`last_steps`), is how many the call made
pub record TakesSteps {P : Type 0} (asked : Call P) (old : Local P) (told : ℕ) (new : Local P) : Type 0 where
  pub made : MakesSteps new.view.words.limits asked old.own old.view.pass new.own new.view.pass
  pub last : CountsSteps old.view.pass new.view.pass told

-- how many atomic steps a phase names as the next: one, or none
abbrev pub named_steps : {P : Type 0} → Phase P → ℕ
named_steps phase = if is_some (next_step phase) then 1 else 0

-- How many steps a call has made (`made`) after one more of its steps, which counts where its phase named an atomic one. The count stops at
-- 2 ^ 32 - 1, and with the steps that are left it is no more than before, so that a call that was begun doesn't reach that end.
pub record CountsStep {P : Type 0} (limits : Limits) (was : Counted P) (own : Record) (next : Next P) (made : ℕ) (new : Record) : Type 0 where
  pub adds : made ≡ min (was.made + named_steps was.way.phase) 4294967295
  pub few : made + left_in limits new was.way.asked next ≤ was.made + steps_left limits own was.way.asked was.way.phase

-- the same between two local states
abbrev pub StepCounts : {P : Type 0} → Counted P → Local P → Next P → ℕ → Local P → Type 0
StepCounts was old next made new = CountsStep new.view.words.limits was old.own next made new.own
