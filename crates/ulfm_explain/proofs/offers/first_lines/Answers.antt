use Rattle.std.proofs.Common.{rules, ◌≡◌, ◌<◌, ◌-◌, ◌==◌, length, get_or, arith}
use Rattle.std.specs.Prelude.{if◌then◌else◌}
use Rattle.ulfm_trace.specs.Texts.{first_lines}
use Rattle.ulfm_explain.proofs.FirstLines.{all_lines, byte_more}
use Rattle.ulfm_explain.proofs.offers.first_lines.Goals as goal

pub loop-i-preserved : goal.loop-i-preserved
loop-i-preserved c =
    let within : c.loop-i.i < length c.args.text.now = search rules in
    let some : 0 < c.loop-i.left = search rules in
    byte_more c.args.text.now (first_lines c.args.count c.args.text.now) c.loop-i.i c.loop-i.left c.left_behind-left.result within some c.left_behind-left.ensures c.loop-i.invariant

pub returns : goal.returns
returns c =
    let end : c.loop-i.i ≡ length c.args.text.now = search rules in
    all_lines c.args.text.now (first_lines c.args.count c.args.text.now) c.loop-i.i c.loop-i.left end c.loop-i.invariant
