use Rattle.std.proofs.Common.{vec_capacity}
use Rattle.ulfm_words.proofs.Lines.{cell_read}
use Rattle.ulfm_words.proofs.plain.Row.get.Goals as goal

pub returns-in-Cell : goal.returns-in-Cell
returns-in-Cell g c =
    let row = c.self.inside in
    rw (← c.self.view_is) (cell_read row.limits row.heads.items row.starts.items row.words.items (vec_capacity row.words) c.self.invariant.1 c.args.place c.in-Cell.line c.in-Cell.rank c.index-in-Cell.result.now c.index-in-Cell-2.result.now c.in-Cell.ensures c.index-in-Cell.ensures c.index-in-Cell-2.ensures)
