use Rattle.std.proofs.Common.{refl, sym}
use Rattle.ulfm_lines.proofs.EventLemmas.{settled_is}
use Rattle.ulfm_lines.proofs.events.settled.Goals as goal

pub returns-then-known-le1024 : goal.returns-then-known-le1024
returns-then-known-le1024 c = sym (settled_is c.args.place _ c.args.offer c.args.known c.args.acked refl refl refl)
