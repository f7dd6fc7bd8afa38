use Rattle.ulfm_script.specs.Buffers.{unread}
use Rattle.ulfm_script.proofs.LinesTaken.{LineSoFar}
use Rattle.ulfm_script.proofs.buffers.Input.read_line.Given as goal

abbrev pub invariant-parts : goal.invariant-parts
invariant-parts g l =
    LineSoFar l.kept (unread g.R.Read.remaining l.fn.self l.fn.reader) (unread g.R.Read.remaining l.self l.reader) l.line.items
