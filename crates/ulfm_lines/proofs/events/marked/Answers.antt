use Rattle.std.proofs.Common.{refl, sym}
use Rattle.ulfm_lines.proofs.EventLemmas.{marked_is}
use Rattle.ulfm_lines.proofs.events.marked.Goals as goal

pub returns-then-known-le1024 : goal.returns-then-known-le1024
returns-then-known-le1024 c = sym (marked_is c.args.place _ c.args.known refl)
