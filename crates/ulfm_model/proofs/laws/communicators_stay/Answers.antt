use Rattle.ulfm_model.proofs.Histories.{members_stay}
use Rattle.ulfm_model.proofs.Stable.{context_stays}
use Rattle.ulfm_model.proofs.laws.communicators_stay.Goals as goal

pub returns : goal.returns
returns g c = λ limits h longer comm begins legal here.
    let both = members_stay limits.ranks h longer comm begins here in
    (both.0, both.1, λ context. context_stays g.P.Meld.meld limits h longer comm context begins legal)
