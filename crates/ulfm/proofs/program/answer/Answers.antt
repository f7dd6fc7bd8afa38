use Rattle.std.proofs.Common.{map, subst}
use Rattle.ulfm_command.specs.declared.asked.Task.{Task}
use Rattle.ulfm_command.proofs.Tasks.{asks_once}
use Rattle.ulfm.specs.Tasks.{DoneWith}
use Rattle.ulfm.proofs.Ends.{task_ran_out}
use Rattle.ulfm.proofs.program.answer.Goals as goal

pub returns-in-Task-clause-does : goal.returns-in-Task-clause-does
returns-in-Task-clause-does g c task asks =
    subst
    (λ (t : Task). DoneWith g.row.A.Denot c.args.looks t
    (record { input = g.R.Read.remaining c.args.input.now; output = g.W.Write.contents c.args.output.now; errors = g.E.Write.contents c.args.errors.now })
    (record { input = g.R.Read.remaining c.perform.new.input; output = g.W.Write.contents c.perform.new.output; errors = g.E.Write.contents c.perform.new.errors })
    c.perform.result)
    (asks_once (map (λ word. word.now) c.args.words.now) c.in-Task.task task c.in-Task.ensures asks)
    c.perform.ensures.done

pub returns-in-Task-clause-bad : goal.returns-in-Task-clause-bad
returns-in-Task-clause-bad g c bad = absurd (bad.no_task c.in-Task.task c.in-Task.ensures)

pub returns-in-Task-clause-told : goal.returns-in-Task-clause-told
returns-in-Task-clause-told g c bad clear = absurd (bad.no_task c.in-Task.task c.in-Task.ensures)

pub returns-in-Bad-clause-does : goal.returns-in-Bad-clause-does
returns-in-Bad-clause-does g c task asks = absurd (c.in-Bad.ensures.no_task task asks)

pub returns-in-Memory-clause-does : goal.returns-in-Memory-clause-does
returns-in-Memory-clause-does g c task asks = task_ran_out _ _ task _ _ _ _ _ c.tell_fault.ensures.status
