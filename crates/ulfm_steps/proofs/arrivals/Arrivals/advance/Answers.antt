use Rattle.std.proofs.Common.{arith}
use Rattle.ulfm_steps.proofs.Arriving.{asked_left}
use Rattle.ulfm_steps.proofs.arrivals.Arrivals.advance.Goals as goal

pub returns-clause-goes : goal.returns-clause-goes
returns-clause-goes g c =
    let goes = c.step.ensures.goes in
    let left = asked_left c.args.group.now c.args.declared.now c.args.self.now.others c.args.self.now.next c.requires.at.asked in
    record { of = goes.of; did = goes.did; cached = goes.cached; caches = goes.caches; onward = goes.onward; steps = omega (arith, goes.steps, left) }
