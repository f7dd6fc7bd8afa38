use Rattle.ulfm_lines.proofs.Beginnings.{begun, unbegun}
use Rattle.ulfm_lines.proofs.fields.behind.Goals as goal

pub returns-then-starts_with : goal.returns-then-starts_with
returns-then-starts_with c = begun c.args.text.now c.args.beginning.now c.starts_with.result c.starts_with.ensures.value c.if-starts_with.true

pub returns-else-starts_with : goal.returns-else-starts_with
returns-else-starts_with c = unbegun c.args.text.now c.args.beginning.now c.starts_with.result c.starts_with.ensures.value c.if-starts_with.false
