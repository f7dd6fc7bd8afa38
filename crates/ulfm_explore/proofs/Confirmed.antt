-- What follows from a script that was run to its end.
use Rattle.std.proofs.Common.{◌≡◌, ℕ, List, [], Some, None, Ok, sym, subst}
use Rattle.ulfm_script.specs.{Ends.{KnownText, PrintsAll}, Scripts.{script_of}}
use Rattle.ulfm_run.specs.StepScripts.{RunsSteps, step_scripts}
use Rattle.ulfm_explore.specs.Shows.{Runs}

-- a script that was run to its end, into an empty text, gives this text
pub ran : (script trace : List ℕ) (left : KnownText) → RunsSteps (Some script) left (Some []) (Some trace) (Ok tt) → Runs script trace
ran script trace left done =
    let runs = done.2.0.0 in
    let here : PrintsAll step_scripts script runs.out = subst (λ (t : List ℕ). PrintsAll step_scripts t runs.out) runs.whole runs.printed in
    record {
      faultless = subst (λ (t : List ℕ). (script_of step_scripts t).fault ≡ None) runs.whole runs.faults;
      written = subst (λ (o : List ℕ). PrintsAll step_scripts script o) (sym done.2.0.1) here;
    }
