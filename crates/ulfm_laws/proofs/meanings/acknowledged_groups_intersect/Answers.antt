use Rattle.ulfm_laws.proofs.Beginnings.{acked_intersection}
use Rattle.ulfm_laws.proofs.meanings.acknowledged_groups_intersect.Goals as goal

pub returns-clause-melds : goal.returns-clause-melds
returns-clause-melds c = acked_intersection
