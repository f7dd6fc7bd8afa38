use Rattle.std.proofs.Common.{true, vec_capacity, ap, ◌∙◌}
use Rattle.ulfm_words.specs.Pass.{cached_by, entries}
use Rattle.ulfm_words.proofs.{Caching.{knows_as, still_holds}, Standing.{cached_place}, Telling.{loads_from}}
use Rattle.ulfm_words.proofs.plain.PlainPass.load.Goals as goal

pub returns : goal.returns
returns g c =
    let limits = c.self.inside.row.limits in
    let ws = c.self.inside.row.words in
    let js = c.self.inside.journal.items in
    let both = loads_from g.P.Meld.meld g.P.Packed.pack g.P.Packed.unpack limits c.args.self.now ws js (vec_capacity c.self.inside.journal) c.self.inside.trail.log.items c.and-self-inside.result.log.items c.args.place c.get-word.result c.self.view_is c.self.invariant.0 c.requires c.get-word.ensures c.and-self-inside.ensures in
    record { loads = both.0; word = both.1 }

pub invariant_of-self : goal.invariant_of-self
invariant_of-self g c =
    still_holds g.P.Meld.meld g.P.Packed.pack (entries g.P.Packed.unpack c.self.inside.row.limits c.self.inside.row.words c.self.inside.journal.items) c.self.inside.sides c.self.inside.trail.log.items c.and-self-inside.result.log.items _ c.and-self-inside.ensures c.self.invariant
    (knows_as g.P.Meld.meld g.P.Packed.pack (entries g.P.Packed.unpack c.self.inside.row.limits c.self.inside.row.words c.self.inside.journal.items) c.self.inside.sides c.self.inside.trail.log.items c.and-self-inside.result.log.items (ap cached_by c.and-self-inside.ensures ∙ cached_place c.self.inside.trail.log.items c.args.place c.get-word.result true) c.self.invariant.2)
