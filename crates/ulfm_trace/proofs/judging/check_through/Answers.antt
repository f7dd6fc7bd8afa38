use Rattle.ulfm_script.specs.Buffers.{line_of, pending, unread}
use Rattle.ulfm_model.specs.Traces.{nothing, said_by}
use Rattle.ulfm_trace.specs.declared.verdict.CheckFault.TheVariants.{Memory}
use Rattle.ulfm_trace.proofs.Checking.{ended_bad, ended_by_line, ended_by_read, ended_cut, ended_done, goes_first, goes_on, handed_on}
use Rattle.ulfm_trace.proofs.judging.check_through.Goals as goal

pub lines-init : goal.lines-init
lines-init g c =
    let k = g.R.Read.remaining in
    goes_first (unread k c.args.input.now c.args.reader.now) (unread k c.open_judge.new.input c.open_judge.new.reader)
    (g.J.LineJudge.Stands c.in-Some.judge) (rw c.in-Some.is at c.in_ok-opened.ensures)

pub returns-in_err-next_line : goal.returns-in_err-next_line
returns-in_err-next_line g c =
    let k = g.R.Read.remaining in
    let fault = c.in_err-next_line.field-0.0 in
    rw (handed_on c.from_residual-in_err-next_line.result fault c.from_residual-in_err-next_line.ensures.1)
    (ended_by_read (unread k c.args.input.now c.args.reader.now) (unread k c.lines.input c.lines.reader) (k c.next_line.new.reader)
    (g.J.LineJudge.Stands c.lines.judge) (pending c.next_line.new.input) (line_of c.next_line.new.input c.next_line.new.line.items) c.lines.number fault c.lines.invariant
    c.in_err-next_line.ensures)

pub returns-in-Done : goal.returns-in-Done
returns-in-Done g c =
    let k = g.R.Read.remaining in
    let e = rw c.in-Done.is at c.in_ok-next_line.ensures in
    ended_done (unread k c.args.input.now c.args.reader.now) (unread k c.lines.input c.lines.reader) (k c.next_line.new.reader)
    (g.J.LineJudge.Stands c.lines.judge) (pending c.next_line.new.input) c.lines.number c.lines.invariant e.0 e.1

pub returns-in-Cut : goal.returns-in-Cut
returns-in-Cut g c =
    let k = g.R.Read.remaining in
    let e = rw c.in-Cut.is at c.in_ok-next_line.ensures in
    ended_cut (unread k c.args.input.now c.args.reader.now) (unread k c.lines.input c.lines.reader) (k c.next_line.new.reader)
    (g.J.LineJudge.Stands c.lines.judge) (pending c.next_line.new.input) e.0 c.lines.number c.lines.invariant e.1 e.2 e.3 e.4

pub returns-in_err-why : goal.returns-in_err-why
returns-in_err-why g c =
    let k = g.R.Read.remaining in
    let e = rw c.in-Newline.is at c.in_ok-next_line.ensures in
    rw (handed_on c.from_residual-in_err-why.result Memory c.from_residual-in_err-why.ensures.1)
    (ended_by_line (unread k c.args.input.now c.args.reader.now) (unread k c.lines.input c.lines.reader) (k c.next_line.new.reader)
    (g.J.LineJudge.Stands c.lines.judge) (pending c.next_line.new.input) e.0 c.lines.number c.lines.invariant e.1 e.3)

pub returns-in-Some-2 : goal.returns-in-Some-2
returns-in-Some-2 g c =
    let k = g.R.Read.remaining in
    let i = c.lines.invariant in
    let e = rw c.in-Newline.is at c.in_ok-next_line.ensures in
    let j = rw c.in-Some-2.is at c.in_ok-why.ensures in
    ended_bad (unread k c.args.input.now c.args.reader.now) (unread k c.lines.input c.lines.reader) (k c.next_line.new.reader)
    (g.J.LineJudge.Stands c.lines.judge)
    (g.J.LineJudge.Stands c.judge_line.new.judge) (pending c.next_line.new.input) e.0 c.line.result.now (line_of c.next_line.new.input c.next_line.new.line.items)
    c.lines.number c.in-Some-2.why i e.1 e.3 (rw c.deref.ensures.value at c.line.ensures) e.2 (j (said_by (nothing i.limits) i.trace) i.stands)

pub lines-preserved : goal.lines-preserved
lines-preserved g c =
    let k = g.R.Read.remaining in
    let i = c.lines.invariant in
    let e = rw c.in-Newline.is at c.in_ok-next_line.ensures in
    let j = rw c.in_default-2.is at c.in_ok-why.ensures in
    goes_on (unread k c.args.input.now c.args.reader.now) (unread k c.lines.input c.lines.reader)
    (unread k c.next_line.new.input c.next_line.new.reader) (g.J.LineJudge.Stands c.lines.judge) (g.J.LineJudge.Stands c.judge_line.new.judge)
    e.0 c.line.result.now (line_of c.next_line.new.input c.next_line.new.line.items) c.lines.number i e.1 e.3 (rw c.deref.ensures.value at c.line.ensures) e.2
    (j (said_by (nothing i.limits) i.trace) i.stands)
