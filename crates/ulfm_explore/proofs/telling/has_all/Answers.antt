use Rattle.std.proofs.Common.{◌∙◌, map, sym}
use Rattle.ulfm_explore.specs.Views.{row_of}
use Rattle.ulfm_explore.proofs.Walks.{has_one, lacks_one}
use Rattle.ulfm_explore.proofs.telling.has_all.Goals as goal

pub returns-then-not-has_noted : goal.returns-then-not-has_noted
returns-then-not-has_noted g c =
    lacks_one c.args.program.now (map row_of c.args.rows.now) c.args.find.now c.loop-wanted.wanted-index (record { rank = 0; text = 0 }) _ c.loop-wanted-test.true
    (sym (rw (c.text.ensures, c.row_at.ensures) at c.has_noted.ensures) ∙ c.if-not-has_noted.true) c.loop-wanted.invariant

pub loop-wanted-preserved : goal.loop-wanted-preserved
loop-wanted-preserved g c =
    has_one c.args.program.now (map row_of c.args.rows.now) c.args.find.now c.loop-wanted.wanted-index (record { rank = 0; text = 0 }) _ c.loop-wanted-test.true
    (sym (rw (c.text.ensures, c.row_at.ensures) at c.has_noted.ensures) ∙ c.if-not-has_noted.false) c.loop-wanted.invariant
