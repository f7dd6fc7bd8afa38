-- What steps of one rank's call tell, as far as they are taken.
use Rattle.std.specs.Prelude.{◌≡◌, ◌⊎◌, ℕ, ◌≤◌, List, [], ◌++◌, length, Some, None}
use Rattle.ulfm_laws.specs.{Flags.{flag_meld}, declared.flag_and.FlagAnd.{FlagAnd}}
use Rattle.ulfm_model.specs.declared.{event.Caller.{Caller}, step_name.StepName.{StepName}}
use Rattle.ulfm_model.specs.{Follows.{AreOf, EndsInReply, NoneBy, steps_in}, Traces.{AreLegalAfter, IsOpen, Told, said_by}}
use Rattle.ulfm_lines.specs.{LineTexts.{lines_text}, Stepped.{TraceState}}
use Rattle.ulfm_lines.specs.declared.step_machine.Reach.{Reach}

-- so many are counted, or the greatest number that there is
abbrev pub IsCountOf : ℕ → ℕ → Type 0
IsCountOf count made = ((made ≡ count) × (count ≤ 4294967295)) ⊎ ((made ≡ 4294967295) × (4294967295 ≤ count))

-- a call is taken to its end
abbrev pub to_the_end : Reach
to_the_end = record { most = None; name = None }

-- What lines of a script ask of the piece that its steps of rank r tell, as far as they are taken: lines in its name, no more looks and events than
-- steps were asked for, none by a step of the name before which they stop, and a reply at last where its call is taken to the end.
pub record IsTaken (now : TraceState) (r : ℕ) (reach : Reach) (piece : List (Told FlagAnd)) : Type 0 where
  pub by : AreOf (Caller.Rank r) piece
  pub few : (most : ℕ) → reach.most ≡ Some most → steps_in piece ≤ most
  pub before : (name : StepName) → reach.name ≡ Some name → NoneBy name piece
  pub ends : reach ≡ to_the_end → IsOpen now (Caller.Rank r) → EndsInReply piece

-- Steps of rank r's call were told, as far as they are taken, and this was counted: lines in its name, each of which may come, no more looks and
-- events than steps, none by a step of the name before which they stop, and a reply at last where the call is over; nothing where none is under way.
-- The machine stands for what they say.
pub record TellsSteps (Stands : TraceState → Type 0) (now : TraceState) (r : ℕ) (reach : Reach) (made : ℕ) (old new : List ℕ) : Type 0 where
  pub piece : List (Told FlagAnd)
  pub count : ℕ
  pub told : new ≡ old ++ lines_text piece
  pub by : AreOf (Caller.Rank r) piece
  pub legal : AreLegalAfter flag_meld now piece
  pub few : steps_in piece ≤ count
  pub counted : IsCountOf count made
  pub within : (most : ℕ) → reach.most ≡ Some most → count ≤ most
  pub before : (name : StepName) → reach.name ≡ Some name → NoneBy name piece
  pub idle : ¬ IsOpen now (Caller.Rank r) → piece ≡ []
  pub ends : IsOpen now (Caller.Rank r) → ¬ IsOpen (said_by now piece) (Caller.Rank r) → EndsInReply piece
  pub stops : reach.name ≡ None → (¬ IsOpen (said_by now piece) (Caller.Rank r)) ⊎ (reach.most ≡ Some made)
  pub room : length (said_by now piece).history ≤ 4294967295
  pub stands : Stands (said_by now piece)
