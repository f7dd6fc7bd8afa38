use Rattle.std.proofs.Common.{ap, subst}
use Rattle.ulfm_model.specs.Traces.{nothing}
use Rattle.ulfm_words.specs.Steps.{Name}
use Rattle.ulfm_run.specs.Table.{StandsFor}
use Rattle.ulfm_run.proofs.Opening.{stands_new}
use Rattle.ulfm_run.proofs.table.StepTableStepMachine.open.Goals as goal
use Rattle.ulfm_run.proofs.table.StepTableStepMachine.open.Goals.{After-new}

stands : (g : _) (c : After-new g) → StandsFor c.in-Ok-open.world c.in_ok-pass.pass c.in_ok-seats.seats.items (nothing c.in-Ok-open.world.limits)
stands g c =
    stands_new c.in-Ok-open.world c.in_ok-pass.pass c.in_ok-pass.ensures c.in-Ok-open.ranks.items (rw c.in-Ok-open.ensures.world c.in-Ok-open.ensures.ranks) (rw c.in-Ok-open.ensures.world c.in-Ok-open.ensures.fits)
    c.in_ok-seats.seats.items c.in_ok-seats.ensures

pub invariant_of-result : goal.invariant_of-result
invariant_of-result g c = λ kept. (_, stands g c)

pub returns : goal.returns
returns g c = rw (← c.in-Ok.ensures)
    (subst (λ l. StandsFor c.in-Ok-open.world c.in_ok-pass.pass c.in_ok-seats.seats.items (nothing l))
    (ap (λ (n : Name). n.limits) c.in-Ok-open.ensures.world) (stands g c))
