use Rattle.std.proofs.Common.{◌≡◌, ap, subst, sym, vec_capacity, ◌∙◌}
use Rattle.ulfm_words.specs.{Pass.{entries}, Rows.{SideWords}}
use Rattle.ulfm_words.proofs.{Caching.{lost_stood, lost_tells, still_holds, won_stood, won_tells}, Tried.{tried_block}}
use Rattle.ulfm_words.proofs.plain.PlainPass.cache.Goals as goal

pub invariant_of-self : goal.invariant_of-self
invariant_of-self g c =
    still_holds g.P.Meld.meld g.P.Packed.pack (entries g.P.Packed.unpack c.self.inside.row.limits c.self.inside.row.words c.self.inside.journal.items) c.self.inside.sides c.self.inside.trail.log.items c.and-self-inside.result.log.items _ c.and-self-inside.ensures c.self.invariant
    (lost_stood g.P.Meld.meld g.P.Packed.pack g.P.Packed.unpack c.self.inside.row.limits c.args.self.now c.self.inside.row.words c.self.inside.sides c.self.inside.journal.items (vec_capacity c.self.inside.journal) c.self.inside.trail.log.items c.and-self-inside.result.log.items c.self.view_is c.self.invariant.0 c.self.invariant.1 c.self.invariant.2 c.args.block c.block-stood.result c.requires.within c.block-stood.ensures c.args.word c.requires.may c.and-self-inside.ensures c.if-stood-ne0.true)

pub returns-then-stood-ne0 : goal.returns-then-stood-ne0
returns-then-stood-ne0 g c = lost_tells g.P.Meld.meld g.P.Packed.pack g.P.Packed.unpack c.self.inside.row.limits c.args.self.now c.self.inside.row.words c.self.inside.sides c.self.inside.journal.items (vec_capacity c.self.inside.journal) c.self.inside.trail.log.items c.and-self-inside.result.log.items c.self.view_is c.self.invariant.0 c.self.invariant.1 c.self.invariant.2 c.args.block c.block-stood.result c.requires.within c.block-stood.ensures c.args.word c.requires.may c.and-self-inside.ensures c.if-stood-ne0.true

pub invariant_of-self-2 : goal.invariant_of-self-2
invariant_of-self-2 g c = (
  c.self.invariant.0,
  c.set_block.ensures.limits ∙ c.self.invariant.1,
  won_stood g.P.Meld.meld g.P.Packed.pack g.P.Packed.unpack c.self.inside.row.limits c.args.self.now c.self.inside.row.words c.self.inside.sides c.self.inside.journal.items (vec_capacity c.self.inside.journal) c.self.inside.trail.log.items c.and-self-inside.result.log.items c.self.view_is c.self.invariant.0 c.self.invariant.1 c.self.invariant.2 c.args.block c.block-stood.result c.requires.within c.block-stood.ensures c.args.word c.requires.may c.and-self-inside.ensures c.requires.winged c.set_block.new.self c.set_block.ensures.limits c.set_block.ensures.set c.set_block.ensures.others c.set_block.ensures.wings,
  tried_block c.self.inside.sides c.set_block.new.self c.self.inside.trail.log.items c.and-self-inside.result.log.items _ c.set_block.ensures.limits c.set_block.ensures.wings c.and-self-inside.ensures c.self.invariant.3,
)

pub returns : goal.returns
returns g c = won_tells g.P.Meld.meld g.P.Packed.pack g.P.Packed.unpack c.self.inside.row.limits c.args.self.now c.self.inside.row.words c.self.inside.sides c.self.inside.journal.items (vec_capacity c.self.inside.journal) c.self.inside.trail.log.items c.and-self-inside.result.log.items c.self.view_is c.self.invariant.0 c.self.invariant.1 c.self.invariant.2 c.args.block c.block-stood.result c.requires.within c.block-stood.ensures c.args.word c.requires.may c.and-self-inside.ensures c.if-stood-ne0.false
