use Rattle.std.proofs.Common.{◌≡◌, ℕ, false, drop, get_or, map}
use Rattle.ulfm_observed.specs.declared.stages.Stage.TheVariants.{Idle}
use Rattle.ulfm_observed.specs.Stages.{shown_of, stage_after}
use Rattle.ulfm_observed.proofs.wills.are_kept_behind.Given as goal

-- Each rank comes from its stage as far as from the start.
abbrev pub invariant-loop-step : goal.invariant-loop-step
invariant-loop-step g l =
    (r : ℕ) → stage_after r (get_or l.lost r false) (get_or l.stages r Idle) (map shown_of (drop l.step-index l.steps))
    ≡ stage_after r (get_or l.lost r false) (get_or l.fn.stages r Idle) (map shown_of l.steps)
