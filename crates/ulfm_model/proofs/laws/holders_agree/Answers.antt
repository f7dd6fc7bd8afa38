use Rattle.ulfm_model.proofs.LeftFits.{held_fits}
use Rattle.ulfm_model.proofs.LeftHolds.{holders_agree}
use Rattle.ulfm_model.proofs.laws.holders_agree.Goals as goal

pub returns : goal.returns
returns g c = λ limits h one other comm x y fits also at to.
    let agree = holders_agree g.P.Meld.meld limits h one other comm x y fits also at to in
    let held = held_fits g.P.Meld.meld limits h one comm x fits at in
    (held.0.member, agree.0, agree.1)
