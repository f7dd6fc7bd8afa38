use Rattle.std.proofs.Common.{sym}
use Rattle.ulfm_script.specs.Words.{rest_at}
use Rattle.ulfm_script.proofs.Ahead.{place_ahead}
use Rattle.ulfm_script.proofs.calls.read_place.Goals as goal

pub returns-in-Some-default-default-None : goal.returns-in-Some-default-default-None
returns-in-Some-default-default-None c =
    let place = c.in-Some-default-default-None in
    sym (place_ahead (rest_at c.args.fields) place.rank place.comm (rw place.field-0-2-is at place.ensures))
