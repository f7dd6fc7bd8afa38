-- What running one line of a step script tells.
use Rattle.std.specs.Prelude.{◌≡◌, ℕ, Bool, List, [], ◌∷◌, ◌++◌}
use Rattle.ulfm_laws.specs.{Flags.{flag_meld}, declared.flag_and.FlagAnd.{FlagAnd}}
use Rattle.ulfm_model.specs.declared.call.Call.{Call}
use Rattle.ulfm_model.specs.Answers.{traits_of}
use Rattle.ulfm_model.specs.declared.step_line.StepLine.TheVariants.{Called}
use Rattle.ulfm_model.specs.{Follows.{Runs}, Traces.{IsOpen, Told, Traced}}
use Rattle.ulfm_lines.specs.{LineTexts.{lines_text}, StepLines.{ScriptStep, SpellsStep}}
use Rattle.ulfm_lines.specs.declared.step_machine.Taken.{Taken}
use Rattle.ulfm_lines.specs.declared.step_machine.Taken.TheVariants.{Open, Run}

-- what the lines of a trace say
abbrev pub TraceState : Type 0
TraceState = Traced FlagAnd

-- a line of a step script that some text spells
abbrev pub IsSpelledStep : ScriptStep → Type 0
IsSpelledStep step = (line : List ℕ) × SpellsStep line step

-- the script's line begins a call of a rank that has one under way
abbrev pub IsOpenCall : TraceState → ScriptStep → Type 0
IsOpenCall now step = (asked : Call FlagAnd) × ((padded : Bool) × (step ≡ Called asked padded)) × IsOpen now (traits_of asked).by

-- The script's line was run: its piece of a legal trace was told behind what was told before, and the machine stands for what it says. Or its
-- call is of a rank that has one under way, and nothing was told.
abbrev pub TellsStep : (TraceState → Type 0) → TraceState → ScriptStep → Taken → List ℕ → List ℕ → Type 0
TellsStep Stands now step Run old new =
    (piece : List (Told FlagAnd)) × (next : TraceState) × Runs flag_meld now (step ∷ []) piece next × Stands next × (new ≡ old ++ lines_text piece)
TellsStep Stands now step Open old new = IsOpenCall now step × (new ≡ old)
