use Rattle.std.proofs.Common.{arith}
use Rattle.ulfm_script.specs.Buffers.{line_of, pending, unread, waiting}
use Rattle.ulfm_script.specs.Ends.{IsOpened, KnownText}
use Rattle.ulfm_script.proofs.RunLemmas.{ended_by_read, ended_cut, ended_done, ended_first, ended_line, goes_first, goes_on, handed_on}
use Rattle.ulfm_script.proofs.engine.run_opened.Goals as goal

pub returns-in_err-put : goal.returns-in_err-put
returns-in_err-put g c =
    let k = g.R.Read.remaining in
    let w = g.W.Write.contents in
    let m = g.M.Interpreter in
    let fault = c.in_err-put.field-0.0 in
    λ plan known opened. rw (handed_on c.from_residual.result fault c.from_residual.ensures.1) (
      ended_first m.lang (m.HasRun plan c.args.machine.now) known (k c.args.reader.now) (w c.args.writer.now) (w c.put.new.writer)
          (pending c.args.input.now) (m.text c.args.machine.now) c.text.result.now (waiting c.args.output.now) (waiting c.put.new.self)
          fault c.requires.empty opened c.in_err-put.ensures.puts,
      tt,
    )

pub lines-init : goal.lines-init
lines-init g c = (
  omega arith,
  λ plan known opened. goes_first (g.met.M.Interpreter.prints plan c.args.machine.now) c.requires.empty opened (rw c.text.ensures at c.in_ok-put.ensures.puts),
)

pub returns-in_err-next_line : goal.returns-in_err-next_line
returns-in_err-next_line g c =
    let k = g.R.Read.remaining in
    let w = g.W.Write.contents in
    let fault = c.in_err-next_line.field-0.0 in
    λ plan known opened. rw (handed_on c.from_residual-in_err-next_line.result fault c.from_residual-in_err-next_line.ensures.1) (
      ended_by_read g.M.Interpreter.lang (g.M.Interpreter.HasRun plan c.lines.machine) known (unread k c.lines.input c.lines.reader)
          (k c.next_line.new.reader) (w c.args.writer.now) (w c.lines.writer) (waiting c.lines.output) (pending c.next_line.new.self)
          (line_of c.next_line.new.self c.next_line.new.apart.items) c.lines.number fault (c.lines.invariant.1 plan known opened) c.in_err-next_line.ensures,
      tt,
    )

pub returns-in-Done : goal.returns-in-Done
returns-in-Done g c =
    let k = g.R.Read.remaining in
    let w = g.W.Write.contents in
    let e = rw c.in-Done.is at c.in_ok-next_line.ensures in
    λ plan known opened. ended_done g.M.Interpreter.lang (g.M.Interpreter.HasRun plan c.lines.machine) known (unread k c.lines.input c.lines.reader)
    (k c.next_line.new.reader) (w c.args.writer.now) (w c.lines.writer) (waiting c.lines.output) (pending c.next_line.new.self)
    c.lines.number (c.lines.invariant.1 plan known opened) e.0 e.1

pub returns-in-Cut : goal.returns-in-Cut
returns-in-Cut g c =
    let k = g.R.Read.remaining in
    let w = g.W.Write.contents in
    let e = rw c.in-Cut.is at c.in_ok-next_line.ensures in
    λ plan known opened. (
      ended_cut g.M.Interpreter.lang (g.M.Interpreter.HasRun plan c.lines.machine) known (unread k c.lines.input c.lines.reader)
          (k c.next_line.new.reader) (w c.args.writer.now) (w c.lines.writer) (waiting c.lines.output) (pending c.next_line.new.self) e.0
          c.lines.number (c.lines.invariant.1 plan known opened) e.1 e.2 e.3 e.4,
      tt,
    )

pub returns-in_err-run_line : goal.returns-in_err-run_line
returns-in_err-run_line g c =
    let k = g.R.Read.remaining in
    let w = g.W.Write.contents in
    let m = g.M.Interpreter in
    let e = rw c.in-Newline.is at c.in_ok-next_line.ensures in
    let fault = c.in_err-run_line.field-0.0 in
    λ plan known opened.
    let i = c.lines.invariant.1 plan known opened in
    rw (handed_on c.from_residual-in_err-run_line.result fault c.from_residual-in_err-run_line.ensures.1) (
      ended_line m.lang (m.HasRun plan c.lines.machine) (m.HasRun plan c.run_line.new.machine) known (unread k c.lines.input c.lines.reader)
          (k c.next_line.new.reader) (w c.args.writer.now) (w c.lines.writer) (w c.run_line.new.writer) (waiting c.lines.output)
          (waiting c.run_line.new.output) (pending c.next_line.new.self) e.0 c.line.result.now (line_of c.next_line.new.self c.next_line.new.apart.items) c.lines.number fault i
          e.1 e.3 (rw c.deref.ensures.value at c.line.ensures) e.2 (c.in_err-run_line.ensures plan i.ran i.has_run),
      tt,
    )

pub lines-preserved : goal.lines-preserved
lines-preserved g c =
    let k = g.R.Read.remaining in
    let w = g.W.Write.contents in
    let m = g.M.Interpreter in
    let e = rw c.in-Newline.is at c.in_ok-next_line.ensures in
    let on = λ (plan : g.row.M-Plan.Denot) (known : KnownText) (opened : IsOpened m.lang (m.HasRun plan c.args.machine.now) known (unread k c.args.input.now c.args.reader.now) (m.text c.args.machine.now)).
    let i = c.lines.invariant.1 plan known opened in
    goes_on m.lang (m.HasRun plan c.lines.machine) (m.HasRun plan c.run_line.new.machine) known (unread k c.lines.input c.lines.reader)
    (unread k c.next_line.new.self c.next_line.new.reader) (w c.args.writer.now) (w c.lines.writer) (w c.run_line.new.writer)
    (waiting c.lines.output) (waiting c.run_line.new.output) e.0 c.line.result.now (line_of c.next_line.new.self c.next_line.new.apart.items) c.lines.number i
    (g.met.M.Interpreter.prints plan c.run_line.new.machine) e.1 e.3 (rw c.deref.ensures.value at c.line.ensures) e.2
    (c.in_ok-run_line.ensures plan i.ran i.has_run) in
    let first = c.requires.opened in
    ((on first.0 first.1 first.2).0, λ plan known opened. (on plan known opened).1)
