use Rattle.std.proofs.Common.{sym}
use Rattle.ulfm_script.specs.Words.{rest_at}
use Rattle.ulfm_script.proofs.Ahead.{flag_ahead}
use Rattle.ulfm_script.proofs.calls.read_agree.Goals as goal

pub returns : goal.returns
returns c =
    let place = c.in-Some-default-default-Some in
    sym (flag_ahead c.args.version (rest_at c.args.fields) place.text.now place.rank place.comm c.in-Ok.value (rw place.field-0-2-is at place.ensures) (sym c.in-Ok.ensures))
