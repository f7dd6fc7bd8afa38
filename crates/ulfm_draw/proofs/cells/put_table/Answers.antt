use Rattle.std.proofs.Common.{subst}
use Rattle.ulfm_draw.specs.Columns.{Gives, own_lines}
use Rattle.ulfm_draw.proofs.cells.put_table.Goals as goal

pub returns : goal.returns
returns g c = λ h.
    subst (Gives c.put_bad.new.sheet.items) c.own_lines.ensures (c.in_ok-put_bad.ensures _ (c.in_ok-put_lines.ensures h))
