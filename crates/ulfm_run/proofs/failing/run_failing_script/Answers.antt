use Rattle.ulfm_run.specs.FailingScripts.{state_of}
use Rattle.ulfm_run.proofs.FailLemmas.{all_failing}
use Rattle.ulfm_run.proofs.failing.run_failing_script.Goals as goal

pub returns-in-Ok-clause-fails : goal.returns-in-Ok-clause-fails
returns-in-Ok-clause-fails g c =
    all_failing c.args.plan (state_of g.M.StepMachine.Stands c.in-Ok.lines) (g.R.Read.remaining c.args.reader.now) (g.W.Write.contents c.args.writer.now)
    (g.W.Write.contents c.run_text.new.writer) c.in-Ok.ensures.all
