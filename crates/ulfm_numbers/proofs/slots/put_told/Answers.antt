use Rattle.std.proofs.Common.{if◌then◌else◌, ap, ◌∙◌}
use Rattle.ulfm_model.specs.History.{same_place}
use Rattle.ulfm_numbers.specs.Cells.{told_at, told_by}
use Rattle.ulfm_numbers.proofs.Placing.{ok_then, read_either}
use Rattle.ulfm_numbers.proofs.slots.put_told.Goals as goal

pub returns : goal.returns
returns g c =
    let was = told_at c.args.slots.now in
    ok_then c.put_at.result (λ put. λ q. ap told_by (put q) ∙ (read_either told_by (same_place c.args.place q) _ _ ∙ ap (λ told. if same_place c.args.place q then told else was q) c.cell_of.ensures))
    c.put_at.ensures
