use Rattle.std.proofs.Common.{ap, length, arith}
use Rattle.ulfm_words.specs.Steps.{Sight}
use Rattle.ulfm_words.proofs.Tied.{entries-length}
use Rattle.ulfm_words.proofs.plain.PlainPass.count.Goals as goal

pub returns : goal.returns
returns g c =
    let whole = entries-length g.P.Packed.unpack c.self.inside.row.limits c.self.inside.row.words c.self.inside.journal.items c.self.invariant.0.made in
    omega (arith, c.len.ensures, c.self.inside.journal.ok.0, whole, ap (λ (o : Sight g.row.P.Denot). length o.seen) c.self.view_is)
