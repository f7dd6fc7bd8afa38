use Rattle.ulfm_model.proofs.Excluded.{shrink_excludes}
use Rattle.ulfm_model.proofs.laws.shrinks_exclude_failures.Goals as goal

pub returns : goal.returns
returns g c = shrink_excludes g.P.Meld.meld
