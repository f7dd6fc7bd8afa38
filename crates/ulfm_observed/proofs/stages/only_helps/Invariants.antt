use Rattle.std.proofs.Common.{◌≡◌, drop, true, None}
use Rattle.std.specs.Prelude.{map}
use Rattle.ulfm_observed.specs.Stages.{aid_after, shown_of}
use Rattle.ulfm_observed.proofs.stages.only_helps.Given as goal

abbrev pub invariant-loop-step : goal.invariant-loop-step
invariant-loop-step g l =
    aid_after l.all l.aid (map shown_of (drop l.step-index l.steps)) ≡ aid_after l.all (record { asked = None; fine = true }) (map shown_of l.steps)
