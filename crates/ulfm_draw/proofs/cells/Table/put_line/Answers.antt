use Rattle.ulfm_draw.proofs.cells.Table.put_line.Goals as goal

pub returns : goal.returns
returns g c = λ given h.
    c.in_ok-put_note.ensures _ (c.in_ok-put_row.ensures given (c.in_ok-put_names.ensures given h))
