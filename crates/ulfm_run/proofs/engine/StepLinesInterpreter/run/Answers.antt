use Rattle.std.proofs.Common.{sym}
use Rattle.ulfm_run.proofs.TraceLemmas.{finds_open, takes_line}
use Rattle.ulfm_run.proofs.engine.StepLinesInterpreter.run.Goals as goal

pub returns-in-Run : goal.returns-in-Run
returns-in-Run g c =
    λ plan before ran.
    takes_line (g.M.StepMachine.Stands c.args.self.now.machine) (g.M.StepMachine.Stands c.run.new.self) before c.args.line.now
    c.clear.new.self.text.items c.run.new.teller.text.items c.in-Ok.step ran (sym c.in-Ok.ensures.exact) c.clear.ensures
    (rw c.in-Run.is at c.in_ok-run-in-Ok.ensures.tells ran.1 ran.3)

pub returns-in-Open : goal.returns-in-Open
returns-in-Open g c =
    λ plan before ran.
    let told = rw c.in-Open.is at c.in_ok-run-in-Ok.ensures.tells ran.1 ran.3 in
    finds_open (g.M.StepMachine.Stands c.args.self.now.machine) before c.args.line.now c.in-Ok.step ran (sym c.in-Ok.ensures.exact) told.0
