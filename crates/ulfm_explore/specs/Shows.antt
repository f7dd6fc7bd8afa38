-- What an outcome that is printed rests on.
use Rattle.std.specs.Prelude.{◌≡◌, ℕ, Bool, true, List, None}
use Rattle.std.specs.List.{All}
use Rattle.ulfm_schedules.specs.declared.moves.Fate.{Fate}
use Rattle.ulfm_schedules.specs.declared.program.Program.{Program}
use Rattle.ulfm_script.specs.{Ends.{PrintsAll}, Scripts.{script_of}}
use Rattle.ulfm_run.specs.StepScripts.{step_scripts}
use Rattle.ulfm_explore.specs.{Readings.{AreRows}, Tellings.{Told, told_text}}

-- The text is a script of steps without a fault, and the trace is what running all its lines writes: the text of a legal trace that follows them.
pub record Runs (script trace : List ℕ) : Type 0 where
  pub faultless : (script_of step_scripts script).fault ≡ None
  pub written : PrintsAll step_scripts script trace

-- The script was run so, its trace is that of ranks with this program, each of them is at rest at its end, and this is what became of them. The callers are
-- those of its declarations, in order: a rank that declares by its program, or another number for the outside.
pub record Shows {A : Type 0} (program : Program A) (rows : List (Fate × List ℕ)) (script trace callers : List ℕ) : Type 0 where
  pub runs : Runs script trace
  pub are_rows : AreRows program callers trace true rows

-- the text is a script that shows an outcome of the program
abbrev pub IsShown : {A : Type 0} → Program A → List ℕ → Type 0
IsShown program script = (rows : List (Fate × List ℕ)) × (trace : List ℕ) × (callers : List ℕ) × Shows program rows script trace callers

-- some trace shows that the outcome comes about by its script
abbrev pub IsOutcome : {A : Type 0} → Program A → Told → Type 0
IsOutcome program told = (trace : List ℕ) × (callers : List ℕ) × Shows program told.0 told.1 trace callers

-- what is told of a program are outcomes, each of which was shown, and the answers that these give
pub record Tells {A : Type 0} (program : Program A) (is_whole : Bool) (states : ℕ) (text : List ℕ) : Type 0 where
  pub told : List Told
  pub shown : All (IsOutcome program) told
  pub text_is : text ≡ told_text program told is_whole states
