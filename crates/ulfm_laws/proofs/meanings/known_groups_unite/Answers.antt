use Rattle.ulfm_laws.proofs.Beginnings.{known_union}
use Rattle.ulfm_laws.proofs.meanings.known_groups_unite.Goals as goal

pub returns-clause-melds : goal.returns-clause-melds
returns-clause-melds c = known_union
