use Rattle.ulfm_lines.proofs.Tables.{passed_refusal}
use Rattle.ulfm_lines.proofs.replies.read_refusal.Goals as goal

pub loop-refusal-preserved : goal.loop-refusal-preserved
loop-refusal-preserved c =
    passed_refusal _ c.loop-refusal.refusal-index _ c.args.number c.args.name.now _ c.is_named.result c.loop-refusal-test.true c.is_named.ensures
    c.if-is_named.false c.loop-refusal.invariant
