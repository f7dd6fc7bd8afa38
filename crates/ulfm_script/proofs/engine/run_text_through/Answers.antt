use Rattle.std.proofs.Common.{Err, Ok}
use Rattle.ulfm_script.specs.declared.fault.RunFault.TheVariants.{Memory}
use Rattle.ulfm_script.specs.Buffers.{pending, unread, waiting}
use Rattle.ulfm_script.proofs.RunLemmas.{handed_on, ran_all_drained, ran_nothing, ran_to_end, ran_to_fault, ran_to_writer}
use Rattle.ulfm_script.proofs.engine.run_text_through.Goals as goal

pub returns-in_err-output-clause-ends : goal.returns-in_err-output-clause-ends
returns-in_err-output-clause-ends g c =
    rw (handed_on c.from_residual.result Memory c.from_residual.ensures.1)
    (ran_nothing g.M.Interpreter.lang (g.R.Read.remaining c.args.reader.now) (g.W.Write.contents c.args.writer.now) (pending c.args.input.now))

pub returns-in_err-finish-in-Ok-clause-ends : goal.returns-in_err-finish-in-Ok-clause-ends
returns-in_err-finish-in-Ok-clause-ends g c =
    let k = g.R.Read.remaining in
    let w = g.W.Write.contents in
    let fault = c.in_err-finish-in-Ok.field-0.0 in
    rw (handed_on c.from_residual-in_err-finish-in-Ok.result fault c.from_residual-in_err-finish-in-Ok.ensures.1)
    (ran_to_end g.M.Interpreter.lang (unread k c.args.input.now c.args.reader.now) (k c.run_lines.new.reader) (w c.args.writer.now) (w c.run_lines.new.writer)
    (w c.finish.new.writer) (pending c.run_lines.new.input) (waiting c.run_lines.new.output) (waiting c.finish.new.self) (Err fault)
    c.in-Ok.ensures.ends c.in_err-finish-in-Ok.ensures)

pub returns-in-Ok-clause-ends : goal.returns-in-Ok-clause-ends
returns-in-Ok-clause-ends g c =
    let k = g.R.Read.remaining in
    let w = g.W.Write.contents in
    ran_to_end g.M.Interpreter.lang (unread k c.args.input.now c.args.reader.now) (k c.run_lines.new.reader) (w c.args.writer.now) (w c.run_lines.new.writer)
    (w c.finish.new.writer) (pending c.run_lines.new.input) (waiting c.run_lines.new.output) (waiting c.finish.new.self) (Ok tt)
    c.in-Ok.ensures.ends c.in_ok-finish-in-Ok.ensures

pub returns-in-Ok-clause-all : goal.returns-in-Ok-clause-all
returns-in-Ok-clause-all g c =
    let k = g.R.Read.remaining in
    let w = g.W.Write.contents in
    ran_all_drained g.M.Interpreter.lang (g.M.Interpreter.HasRun c.args.plan c.in-Ok.machine) (unread k c.args.input.now c.args.reader.now) (w c.args.writer.now)
    (w c.run_lines.new.writer) (w c.finish.new.writer) (waiting c.run_lines.new.output) c.in-Ok.ensures.all c.in_ok-finish-in-Ok.ensures.1

pub returns-in_err-finish-in_default-clause-ends : goal.returns-in_err-finish-in_default-clause-ends
returns-in_err-finish-in_default-clause-ends g c =
    let k = g.R.Read.remaining in
    let w = g.W.Write.contents in
    let failed = c.in_err-finish-in_default.ensures in
    rw (
      handed_on c.from_residual-in_err-finish-in_default.result c.in_err-finish-in_default.field-0.0
          c.from_residual-in_err-finish-in_default.ensures.1,
      failed.0,
    )
    (ran_to_writer g.M.Interpreter.lang (unread k c.args.input.now c.args.reader.now) (k c.run_lines.new.reader) (w c.args.writer.now) (w c.run_lines.new.writer)
    (w c.finish-in_default.new.writer) (pending c.run_lines.new.input) (waiting c.run_lines.new.output) c.in-Err.fault
    c.in_default.not-Write c.in-Err.ensures.ends failed.1)

pub returns-clause-ends : goal.returns-clause-ends
returns-clause-ends g c =
    let k = g.R.Read.remaining in
    let w = g.W.Write.contents in
    ran_to_fault g.M.Interpreter.lang (unread k c.args.input.now c.args.reader.now) (k c.run_lines.new.reader) (w c.args.writer.now)
    (w c.run_lines.new.writer) (w c.finish-in_default.new.writer) (pending c.run_lines.new.input) (waiting c.run_lines.new.output)
    c.in-Err.fault c.in_default.not-Write c.in-Err.ensures.ends c.in_ok-finish-in_default.ensures.1
