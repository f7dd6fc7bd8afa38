use Rattle.std.proofs.Common.{◌≤◌, ◌<◌, arith}
use Rattle.ulfm_script.specs.Words.{rest_at}
use Rattle.ulfm_lines.proofs.Leading.{fault_field, past_field, within_field}
use Rattle.ulfm_lines.proofs.fields.field_to.Goals as goal

pub returns-then-number-from : goal.returns-then-number-from
returns-then-number-from c =
    let great : c.args.most < c.in-Ok.number = omega (arith, c.if-number-from.true, c.from.ensures) in
    past_field c.args.most c.in-Ok.number (rest_at c.args.text) (rest_at c.in-Ok.rest) c.in-Ok.ensures.read great

pub returns-else-number-from : goal.returns-else-number-from
returns-else-number-from c =
    let few : c.in-Ok.number ≤ c.args.most = omega (arith, c.if-number-from.false, c.from.ensures) in
    within_field c.args.most c.in-Ok.number (rest_at c.args.text) (rest_at c.in-Ok.rest) c.in-Ok.ensures.read few

pub returns-in-Err : goal.returns-in-Err
returns-in-Err c = fault_field c.args.most (rest_at c.args.text) c.in-Err.kind c.in-Err.ensures.read
