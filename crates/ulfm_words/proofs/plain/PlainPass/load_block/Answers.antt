use Rattle.std.proofs.Common.{vec_capacity}
use Rattle.ulfm_words.specs.Pass.{entries}
use Rattle.ulfm_words.proofs.Caching.{peek_stood, peek_tells, still_holds}
use Rattle.ulfm_words.proofs.plain.PlainPass.load_block.Goals as goal

pub invariant_of-self : goal.invariant_of-self
invariant_of-self g c =
    still_holds g.P.Meld.meld g.P.Packed.pack (entries g.P.Packed.unpack c.self.inside.row.limits c.self.inside.row.words c.self.inside.journal.items) c.self.inside.sides c.self.inside.trail.log.items c.and-self-inside.result.log.items _ c.and-self-inside.ensures c.self.invariant
    (peek_stood g.P.Meld.meld g.P.Packed.pack g.P.Packed.unpack c.self.inside.row.limits c.args.self.now c.self.inside.row.words c.self.inside.sides c.self.inside.journal.items (vec_capacity c.self.inside.journal) c.self.inside.trail.log.items c.and-self-inside.result.log.items c.self.view_is c.self.invariant.0 c.self.invariant.1 c.self.invariant.2 c.args.block c.block-stood.result c.requires.within c.block-stood.ensures c.and-self-inside.ensures)

pub returns : goal.returns
returns g c = peek_tells g.P.Meld.meld g.P.Packed.pack g.P.Packed.unpack c.self.inside.row.limits c.args.self.now c.self.inside.row.words c.self.inside.sides c.self.inside.journal.items (vec_capacity c.self.inside.journal) c.self.inside.trail.log.items c.and-self-inside.result.log.items c.self.view_is c.self.invariant.0 c.self.invariant.1 c.self.invariant.2 c.args.block c.block-stood.result c.requires.within c.block-stood.ensures c.and-self-inside.ensures
