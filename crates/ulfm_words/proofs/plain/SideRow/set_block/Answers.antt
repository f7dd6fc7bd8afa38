use Rattle.std.proofs.Common.{sym, subst, ap, ◌∙◌, ◌*◌}
use Rattle.ulfm_model.specs.Blocks.{IsBlockWithin}
use Rattle.ulfm_words.specs.Rows.{SideWords, block_key}
use Rattle.ulfm_words.proofs.SideRows.{other_block}
use Rattle.ulfm_words.proofs.plain.SideRow.set_block.Goals as goal

pub returns-clause-others : goal.returns-clause-others
returns-clause-others g c =
    let there = subst (λ (o : SideWords). IsBlockWithin o.limits c.args.block) (sym c.self.view_is) c.requires in
    let at = c.index-index.ensures.at ∙ ap (λ (o : SideWords). 2 * block_key o.limits c.args.block) (sym c.self.view_is) in
    rw (← c.self.view_is) (other_block c.self.inside.wings.limits c.self.inside.blocks.items c.index-index.result c.args.word c.args.block there at)
