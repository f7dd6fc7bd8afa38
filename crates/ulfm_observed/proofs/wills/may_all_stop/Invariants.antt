use Rattle.std.proofs.Common.{ℕ, ◌<◌, get_or}
use Rattle.std.specs.Prelude.{IsTrue}
use Rattle.ulfm_observed.specs.declared.stages.Stage.TheVariants.{Idle}
use Rattle.ulfm_observed.specs.Stages.{may_stop}
use Rattle.ulfm_observed.proofs.wills.may_all_stop.Given as goal

-- Each rank so far may stop.
abbrev pub invariant-loop-stage : goal.invariant-loop-stage
invariant-loop-stage l = (r : ℕ) → r < l.stage-index → IsTrue (may_stop (get_or l.stages r Idle))
