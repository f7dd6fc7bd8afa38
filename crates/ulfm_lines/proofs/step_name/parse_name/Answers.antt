use Rattle.ulfm_lines.proofs.Tables.{passed_name}
use Rattle.ulfm_lines.proofs.step_name.parse_name.Goals as goal

pub loop-name-preserved : goal.loop-name-preserved
loop-name-preserved c =
    passed_name _ c.loop-name.name-index _ c.args.word.now c.step_word.result.now _ c.eq.result c.loop-name-test.true c.step_word.ensures
    c.eq.ensures c.if-eq.false c.loop-name.invariant
