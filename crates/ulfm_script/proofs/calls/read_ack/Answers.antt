use Rattle.std.proofs.Common.{◌<◌, None, sym, arith}
use Rattle.ulfm_script.specs.Words.{rest_at}
use Rattle.ulfm_script.proofs.Ahead.{count_ahead, count_fits}
use Rattle.ulfm_script.proofs.calls.read_ack.Goals as goal

pub overflow_cast-count : goal.overflow_cast-count
overflow_cast-count c =
    let last = c.in-Ok-default-None in
    let few : last.count < 10000 = count_fits c.in-Some-default-default-Some.text.now last.count None (rw last.field-0-1-is at last.ensures) in
    omega (arith, few)

pub returns : goal.returns
returns c =
    let place = c.in-Some-default-default-Some in
    let last = c.in-Ok-default-None in
    sym (count_ahead (rest_at c.args.fields) place.text.now place.rank place.comm last.count (rw place.field-0-2-is at place.ensures) (rw last.field-0-1-is at last.ensures))
