use Rattle.std.proofs.Common.{subst}
use Rattle.ulfm_model.specs.History.{IsLegal}
use Rattle.ulfm_model.specs.Traces.{nothing, said_by}
use Rattle.ulfm_model.proofs.Kept.{kept_along, kept_nothing, limits_stay}
use Rattle.ulfm_model.proofs.trace_laws.events_are_legal.Goals as goal

pub returns : goal.returns
returns g c = λ limits lines legal.
    let meld = g.P.Meld.meld in
    subst (λ l. IsLegal meld l (said_by (nothing limits) lines).history) (limits_stay meld (nothing limits) lines)
    (kept_along meld (nothing limits) lines legal (kept_nothing meld limits)).legal
