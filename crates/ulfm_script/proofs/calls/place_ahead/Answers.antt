use Rattle.std.proofs.Common.{◌≤◌, arith}
use Rattle.ulfm_script.specs.Words.{rest_at}
use Rattle.ulfm_script.proofs.Ahead.{stands}
use Rattle.ulfm_script.proofs.calls.place_ahead.Goals as goal

pub returns : goal.returns
returns c =
    let first = c.in-Ok-default-Some in
    let one = rw first.field-0-1-is at first.ensures in
    let low : first.rank ≤ 1023 = omega (arith, c.if-rank-from.false, c.from.ensures) in
    let small : c.in-Ok.comm ≤ 255 = omega (arith, c.if-comm-from.false, c.from-else-rank-from.ensures) in
    rw c.in_ok-fields.was (stands c.in_ok-fields.field-0.now first.text.now first.rank c.in-Ok.comm (rest_at c.in-Ok.rest) one c.in-Ok.ensures low small)
