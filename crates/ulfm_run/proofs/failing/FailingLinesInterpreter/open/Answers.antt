use Rattle.std.proofs.Common.{[], true}
use Rattle.ulfm_run.specs.FailingScripts.{EngineState, state_of}
use Rattle.ulfm_run.proofs.FailLemmas.{has_opened, stands_first}
use Rattle.ulfm_run.proofs.failing.FailingLinesInterpreter.open.Goals as goal

pub returns : goal.returns
returns g c =
    let m = g.M.StepMachine.Stands in
    let said = m c.in_ok-machine.machine in
    let text = c.in_ok-teller.teller.text.items in
    let old : EngineState = record { Says = said; plan = c.args.plan; waits = true; made = 0; text = text } in
    has_opened c.args.plan old (state_of m c.declare.new.self) c.args.heading.limits c.in_ok-declare.field-0 c.declare.ensures.plan c.in_ok-teller.ensures
    (c.in_ok-declare.ensures.told c.args.heading.limits [] [] (stands_first said c.args.heading.limits c.args.plan text c.in_ok-machine.ensures))
