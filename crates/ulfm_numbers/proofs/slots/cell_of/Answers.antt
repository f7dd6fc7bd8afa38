use Rattle.std.proofs.Common.{Some, sym, ap, ◌∙◌}
use Rattle.ulfm_model.specs.declared.contribution.Slot.TheVariants.{Given}
use Rattle.ulfm_numbers.specs.Cells.{given_of}
use Rattle.ulfm_numbers.proofs.slots.cell_of.Goals as goal

pub returns-in-Given : goal.returns-in-Given
returns-in-Given g c =
    c.cell_given.ensures
    ∙ (ap (λ counts. Some (c.args.number, Given (given_of counts c.in-Given.given.offer))) c.counts_of.ensures
    ∙ ap (λ slot. Some (c.args.number, slot)) (sym c.in-Given.is))
