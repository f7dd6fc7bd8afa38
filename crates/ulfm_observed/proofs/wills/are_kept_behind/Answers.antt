use Rattle.std.proofs.Common.{◌∙◌, arith}
use Rattle.ulfm_observed.proofs.Ranked.{stages_go_on}
use Rattle.ulfm_observed.proofs.wills.are_kept_behind.Goals as goal

pub loop-step-preserved : goal.loop-step-preserved
loop-step-preserved g c = λ r.
    stages_go_on c.args.steps.now c.loop-step.step-index c.step-item.result c.args.lost.now c.loop-step.stages c.stage_goes_on.new.stages r
    (omega (arith, c.loop-step-test.true)) c.step-item.is (c.stage_goes_on.ensures c.if-not-stage_goes_on.false)
    ∙ c.loop-step.invariant r
