use Rattle.std.proofs.Common.{◌∙◌, ap, ◌++◌, List, ℕ}
use Rattle.ulfm_draw.specs.Columns.{own_lines}
use Rattle.ulfm_draw.proofs.Rows.{gives_all, gives_none}
use Rattle.ulfm_draw.proofs.cells.draw_text.Goals as goal

pub returns : goal.returns
returns g c =
    let rows = c.in_ok-put_rows.ensures (gives_none c.new-sheet.result.items c.new-sheet.ensures.items) in
    record {
      body = c.put_legend.new.sheet.items;
      told = c.in_ok-extend_from_slice.ensures.items ∙ ap (λ (xs : List ℕ). c.put_legend.new.sheet.items ++ xs) (c.deref.ensures.value ∙ c.in_ok-line.ensures);
      back = gives_all c.put_legend.new.sheet.items (own_lines c.args.verdict c.args.text.now) (c.in_ok-put_legend.ensures _ rows);
    }
