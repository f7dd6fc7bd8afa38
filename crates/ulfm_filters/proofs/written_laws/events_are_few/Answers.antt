use Rattle.ulfm_filters.proofs.Sizes.{events_few}
use Rattle.ulfm_filters.proofs.written_laws.events_are_few.Goals as goal

pub returns : goal.returns
returns g c = λ limits h wide legal. events_few g.P.Meld.meld limits wide h legal
