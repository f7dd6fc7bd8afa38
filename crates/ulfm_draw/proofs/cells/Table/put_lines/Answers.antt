use Rattle.std.proofs.Common.{[], arith}
use Rattle.ulfm_draw.specs.Columns.{lines_taken}
use Rattle.ulfm_draw.proofs.Rows.{rows_end, rows_first, rows_none, rows_on}
use Rattle.ulfm_draw.proofs.cells.Table.put_lines.Goals as goal

pub lines-init : goal.lines-init
lines-init g c = λ h. rows_first c.args.sheet.now.items c.args.text.now c.args.lines h

pub lines-preserved : goal.lines-preserved
lines-preserved g c = λ h.
    rows_on c.lines.sheet.items c.put_line.new.sheet.items c.lines.left.now c.in-Some.line.now c.in-Some.behind.now (lines_taken [] c.args.lines c.args.text.now)
    c.args.lines c.lines.number c.lines-test.true (c.lines.invariant h) c.in-Some.ensures.1 c.in-Some.ensures.0 c.in_ok-put_line.ensures

pub returns-in_default : goal.returns-in_default
returns-in_default g c = λ h.
    rows_none c.lines.sheet.items c.lines.left.now (lines_taken [] c.args.lines c.args.text.now) _ (c.lines.invariant h) c.in_default.ensures

pub returns : goal.returns
returns g c = λ h.
    rows_end c.lines.sheet.items c.lines.left.now (lines_taken [] c.args.lines c.args.text.now) c.args.lines c.lines.number c.lines-test.false
    (c.lines.invariant h)
