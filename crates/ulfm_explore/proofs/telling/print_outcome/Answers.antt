use Rattle.ulfm_explore.specs.Views.{row_of}
use Rattle.ulfm_explore.proofs.Walks.{map_next, rows_on}
use Rattle.ulfm_explore.proofs.telling.print_outcome.Goals as goal

pub loop-row-preserved : goal.loop-row-preserved
loop-row-preserved g c =
    let next = map_next row_of c.args.rows.now c.loop-row.row-index c.row-item.result c.loop-row-test.true c.row-item.is in
    rw (c.saturating_add-rank.ensures, c.in_ok-print_row.ensures)
    (rows_on c.loop-row.text.items c.loop-row.rank _ _ _ _ next c.loop-row.invariant)
