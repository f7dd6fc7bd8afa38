-- A log that is explained, where the lines were found legal.
use Rattle.std.proofs.Common.{List, None, Ok, Err, map, true}
use Rattle.std.specs.Prelude.{Bool, IfOk, IsTrue, Result}
use Rattle.std.specs.declared.alloc.AllocError.{AllocError}
use Rattle.ulfm_laws.specs.Flags.{flag_meld}
use Rattle.ulfm_model.specs.Traces.{IsLegalTrace}
use Rattle.ulfm_observed.specs.declared.{log.Log.{Log}, step.Step.{Step}}
use Rattle.ulfm_observed.specs.{Explains.{AreAllHeard, AreWillsKept, Explains, all_logged}, LogTexts.{heard_in}, Stages.{aid_after, shown_of, told_of}}

-- Lines explain a log where they keep to it, and are legal if that is answered.
pub explained : {A B : Type 0} (log : Log A) (steps : List (Step B)) (legal : Result Bool AllocError)
    → AreAllHeard log.order (heard_in log) (map shown_of steps) → AreWillsKept (heard_in log) (map shown_of steps)
    → IsTrue (aid_after (all_logged log.failures) (record { asked = None; fine = true }) (map shown_of steps)).fine
    → IfOk legal (λ yes. IsTrue yes → IsLegalTrace flag_meld log.limits (map told_of steps)) → IfOk legal (λ yes. IsTrue yes → Explains log steps)
explained log steps (Ok told) heard wills outside judged = λ is. record { legal = judged is; heard = heard; wills = wills; outside = outside }
explained log steps (Err fault) heard wills outside judged = judged
