use Rattle.ulfm_model.proofs.Spawned.{members_of_spawned}
use Rattle.ulfm_model.proofs.laws.survivors_are_spawned.Goals as goal

pub returns : goal.returns
returns g c = λ limits h j parent k legal at.
    let made = members_of_spawned g.P.Meld.meld limits h legal j parent k at in (made.decided, made.group)
