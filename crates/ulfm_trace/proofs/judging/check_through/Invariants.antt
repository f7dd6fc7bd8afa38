use Rattle.ulfm_script.specs.Buffers.{unread}
use Rattle.ulfm_trace.proofs.Checking.{Going}
use Rattle.ulfm_trace.proofs.judging.check_through.Given as goal

abbrev pub invariant-lines : goal.invariant-lines
invariant-lines g l =
    let k = g.R.Read.remaining in Going (unread k l.fn.input l.fn.reader) (unread k l.input l.reader) (g.J.LineJudge.Stands l.judge) l.number
