use Rattle.std.proofs.Common.{◌≤◌}
use Rattle.ulfm_script.specs.Buffers.{unread, waiting}
use Rattle.ulfm_script.specs.Ends.{IsOpened, KnownText}
use Rattle.ulfm_script.proofs.RunLemmas.{Going}
use Rattle.ulfm_script.proofs.engine.run_opened.Given as goal

abbrev pub invariant-lines : goal.invariant-lines
invariant-lines g l =
    let k = g.R.Read.remaining in
    let w = g.W.Write.contents in
    let m = g.M.Interpreter in
    (l.number ≤ 100001)
    × ((plan : g.row.M-Plan.Denot) (known : KnownText) → IsOpened m.lang (m.HasRun plan l.fn.machine) known (unread k l.fn.input l.fn.reader) (m.text l.fn.machine)
    → Going m.lang (m.HasRun plan l.machine) known (unread k l.input l.reader) (w l.fn.writer) (w l.writer) (waiting l.output) l.number)
