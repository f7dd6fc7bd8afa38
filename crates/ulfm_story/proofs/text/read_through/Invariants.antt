use Rattle.std.specs.Io.KnownBytes.{Consumes}
use Rattle.ulfm_script.specs.Buffers.{unread}
use Rattle.ulfm_story.proofs.text.read_through.Given as goal

abbrev pub invariant-lines : goal.invariant-lines
invariant-lines g l = let k = g.R.Read.remaining in Consumes (unread k l.fn.input l.fn.reader) (unread k l.input l.reader) l.text.items
