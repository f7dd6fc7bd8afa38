-- What steps of one rank's call tell.
use Rattle.std.specs.Prelude.{◌≡◌, ◌≢◌, ◌⊎◌, ℕ, ◌+◌, ◌≤◌, ⊤, List, [], ◌∷◌, ◌++◌, length, take, is_some, IsTrue, Option, Some, None}
use Rattle.std.specs.List.{AllByRecursion}
use mathlib.Core.List.{IsPrefix}
use Rattle.ulfm_laws.specs.{Flags.{flag_meld}, declared.flag_and.FlagAnd.{FlagAnd}}
use Rattle.ulfm_model.specs.declared.{event.Caller.{Caller}, step_name.StepName.{StepName}}
use Rattle.ulfm_model.specs.{History.{History}, Records.{Record}}
use Rattle.ulfm_words.specs.Steps.{Name, Over, Sight, over}
use Rattle.ulfm_comm.specs.StepsLeft.{MakesStep}
use Rattle.ulfm_model.specs.{Follows.{AreOf, EndsInReply, NoneBy, steps_in}, Traces.{AreLegalAfter, Told, Traced, said_by}}
use Rattle.ulfm_lines.specs.declared.step_machine.Reach.{Reach}
use Rattle.ulfm_lines.specs.{LineTexts.{lines_text}, Progress.{IsReached}, Walked.{IsCountOf}}
use Rattle.ulfm_run.specs.{Seats.{MayList, Seated, Sits, comm_in, call_steps_left, next_in}, declared.told.Answer.{Answer}}

-- the ranks that have a seat, with flags as contributions
abbrev pub FlagSeat : Type 0
FlagSeat = Seated FlagAnd

-- the words of this identity, with each flag as it is
abbrev pub flag_words : Name → Over FlagAnd
flag_words name = over (λ (flag : FlagAnd). flag.bits) name

-- how many steps are left of the call under way, at most
abbrev pub left_of : Name → FlagSeat → ℕ
left_of name seat = call_steps_left name.limits seat.own seat.call

-- a rank knows the ranks that its answer's line lists, if there is one
abbrev pub KnowsGroup : ℕ → History FlagAnd → ℕ → Option (Answer FlagAnd) → Record → Type 0
KnowsGroup ranks h c None own = ⊤
KnowsGroup ranks h c (Some answer) own = MayList ranks (take answer.point h) c answer.reply own

-- a rank's call goes on by lines in its name, each of which may come, and the rank sits on, where this was said before
pub record SitsOn (name : Name) (now : Traced FlagAnd) (piece : List (Told FlagAnd)) (after : Sight FlagAnd) (seat : FlagSeat) : Type 0 where
  pub legal : AreLegalAfter flag_meld now piece
  pub sits : Sits flag_meld (flag_words name) (said_by now piece) after seat

-- the names of the steps that a seat's call made, one after another
abbrev pub MakesNamedSteps : List (Option StepName) → Sight FlagAnd → FlagSeat → Sight FlagAnd → FlagSeat → Type 0
MakesNamedSteps [] pass seat after left = (after ≡ pass) × (left ≡ seat)
MakesNamedSteps (name ∷ names) pass seat after left =
    (next_in seat.call ≡ name) × (between : Sight FlagAnd) × (mid : FlagSeat) × MakesStep name seat.own.number (comm_in seat.call) pass between
    × MakesNamedSteps names between mid after left

-- none of these steps has the name
abbrev pub AreOther : StepName → List (Option StepName) → Type 0
AreOther name names = AllByRecursion (λ made. made ≢ Some name) names

-- what a machine of single steps has at a moment: its pass, a rank's seat, and what it has written so far
pub record Stage : Type 0 where
  pub pass : Sight FlagAnd
  pub seat : FlagSeat
  pub text : List ℕ

abbrev pub stage : Sight FlagAnd → FlagSeat → List ℕ → Stage
stage pass seat text = record { pass = pass; seat = seat; text = text }

-- Steps of these names were made of a rank's call and told: lines in its name, no more looks and events than steps, none by a step of a name that none
-- of them has, and a reply at last where the call is over. What the pass knew to be set it still knows. They may come wherever the rank sits so.
pub record SeatWalks (name : Name) (names : List (Option StepName)) (old new : Stage) : Type 0 where
  pub piece : List (Told FlagAnd)
  pub told : new.text ≡ old.text ++ lines_text piece
  pub makes : MakesNamedSteps names old.pass old.seat new.pass new.seat
  pub by : AreOf (Caller.Rank old.seat.own.number) piece
  pub few : steps_in piece ≤ length names
  pub others : (name : StepName) → AreOther name names → NoneBy name piece
  pub ends : IsTrue (is_some old.seat.call) → new.seat.call ≡ None → EndsInReply piece
  pub number : new.seat.own.number ≡ old.seat.own.number
  pub onward : old.pass.steps ≤ new.pass.steps
  pub keeps : IsPrefix old.pass.cached new.pass.cached
  pub goes : (now : Traced FlagAnd) → Sits flag_meld (flag_words name) now old.pass old.seat → SitsOn name now piece new.pass new.seat

-- Steps of a rank's call were made and told, as far as they are taken, and this was counted: no more than may be, and none that has the name before
-- which they stop. The call is over then, or as far as is said.
pub record WalksUntil (reach : Reach) (made : ℕ) (name : Name) (old new : Stage) : Type 0 where
  pub names : List (Option StepName)
  pub counted : IsCountOf (length names) made
  pub within : (most : ℕ) → reach.most ≡ Some most → length names ≤ most
  pub before : (name : StepName) → reach.name ≡ Some name → AreOther name names
  pub steps : new.pass.steps ≡ old.pass.steps + length names
  pub walks : SeatWalks name names old new
  pub stops : (new.seat.call ≡ None) ⊎ IsReached reach made (next_in new.seat.call)
