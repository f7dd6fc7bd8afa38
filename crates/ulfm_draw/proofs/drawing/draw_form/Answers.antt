use Rattle.std.proofs.Common.{◌∙◌}
use Rattle.ulfm_draw.proofs.Judged.{own_given}
use Rattle.ulfm_draw.proofs.drawing.draw_form.Goals as goal

pub returns-in_ok-draw_text-in-Text : goal.returns-in_ok-draw_text-in-Text
returns-in_ok-draw_text-in-Text g c =
    let is = c.in_ok-draw_text-in-Text.ensures in
    rw c.in-Text.is (is.body, is.told, is.back ∙ own_given c.args.text.now c.args.verdict c.requires)
