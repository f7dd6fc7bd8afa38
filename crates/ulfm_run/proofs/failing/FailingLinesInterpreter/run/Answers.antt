use Rattle.std.proofs.Common.{sym}
use Rattle.ulfm_run.specs.FailingScripts.{state_of}
use Rattle.ulfm_run.proofs.FailLemmas.{finds_failing, takes_failing}
use Rattle.ulfm_run.proofs.failing.FailingLinesInterpreter.run.Goals as goal

pub returns-in-Run : goal.returns-in-Run
returns-in-Run g c = λ plan before ran.
    let m = g.M.StepMachine.Stands in
    takes_failing plan (state_of m c.args.self.now) (state_of m c.take.new.self) before c.args.line.now c.in-Ok.step ran (sym c.in-Ok.ensures.exact)
    c.clear.new.self.text.items c.clear.ensures c.take.ensures.plan (rw c.in-Run.is at c.in_ok-take-in-Ok.ensures.told before.heading.limits ran.trace ran.rest)

pub returns-in-Open : goal.returns-in-Open
returns-in-Open g c = λ plan before ran.
    let m = g.M.StepMachine.Stands in
    finds_failing plan (state_of m c.args.self.now) (state_of m c.take.new.self) before c.args.line.now c.in-Ok.step ran (sym c.in-Ok.ensures.exact)
    c.clear.new.self.text.items (rw c.in-Open.is at c.in_ok-take-in-Ok.ensures.told before.heading.limits ran.trace ran.rest)
