use Rattle.std.proofs.Common.{◌≡◌, None, Some, sym, ◌∙◌}
use Rattle.ulfm_replica.proofs.wire.Fields.contribution.Goals as goal

pub returns-in_err-offer : goal.returns-in_err-offer
returns-in_err-offer g c = λ given kind payload known acked.
    let none : None ≡ Some given.offer = sym c.in_err-offer.was ∙ c.offer.ensures given.offer kind payload in
    absurd (cc none)

pub returns : goal.returns
returns g c = λ given kind payload known acked.
    let some : Some c.in_ok-offer.offer ≡ Some given.offer = sym c.in_ok-offer.was ∙ c.offer.ensures given.offer kind payload in
    c.given.ensures given (cc some) known acked
