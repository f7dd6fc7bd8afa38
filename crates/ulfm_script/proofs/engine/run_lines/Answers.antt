use Rattle.ulfm_script.specs.declared.fault.RunFault.TheVariants.{Memory}
use Rattle.ulfm_script.specs.Buffers.{pending, unread, waiting}
use Rattle.ulfm_script.proofs.RunLemmas.{ended_at_once, ended_unopened, handed_on}
use Rattle.ulfm_script.proofs.engine.run_lines.Goals as goal

pub returns-in_err-line-clause-ends : goal.returns-in_err-line-clause-ends
returns-in_err-line-clause-ends g c =
    rw (handed_on c.from_residual.result Memory c.from_residual.ensures.1)
    (ended_at_once g.M.Interpreter.lang (g.R.Read.remaining c.args.reader.now) (g.W.Write.contents c.args.writer.now) (pending c.args.input.now)
    (waiting c.args.output.now) c.requires)

pub returns-in_err-machine-clause-ends : goal.returns-in_err-machine-clause-ends
returns-in_err-machine-clause-ends g c =
    let k = g.R.Read.remaining in
    let fault = c.in_err-machine.field-0.0 in
    rw (handed_on c.from_residual-in_err-machine.result fault c.from_residual-in_err-machine.ensures.1)
    (ended_unopened g.M.Interpreter.lang (g.M.Interpreter.HasRun c.args.plan) g.M.Interpreter.text (pending c.open_machine.new.input) (unread k c.args.input.now c.args.reader.now)
    (k c.open_machine.new.reader) (g.W.Write.contents c.args.writer.now) (waiting c.args.output.now) fault c.requires c.in_err-machine.ensures)

pub run_opened-requires : goal.run_opened-requires
run_opened-requires g c = record {
  empty = c.requires;
  opened = (c.args.plan, unread g.R.Read.remaining c.args.input.now c.args.reader.now, c.in_ok-machine.ensures);
}

pub returns-in_err-run_opened-clause-ends : goal.returns-in_err-run_opened-clause-ends
returns-in_err-run_opened-clause-ends g c =
    let known = unread g.R.Read.remaining c.args.input.now c.args.reader.now in
    let fault = c.in_err-run_opened.field-0.0 in
    rw (handed_on c.from_residual-in_err-run_opened.result fault c.from_residual-in_err-run_opened.ensures.1)
    (c.in_err-run_opened.ensures c.args.plan known c.in_ok-machine.ensures).0

pub returns : goal.returns
returns g c =
    let known = unread g.R.Read.remaining c.args.input.now c.args.reader.now in
    let ran = c.in_ok-run_opened.ensures c.args.plan known c.in_ok-machine.ensures in
    record {
      ends = ran.0;
      all = ran.1;
    }
