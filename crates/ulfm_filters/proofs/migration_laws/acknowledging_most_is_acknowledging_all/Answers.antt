use Rattle.ulfm_filters.proofs.Acknowledging.{all_acknowledged}
use Rattle.ulfm_filters.proofs.migration_laws.acknowledging_most_is_acknowledging_all.Goals as goal

pub returns : goal.returns
returns c = λ state new r comm count reply sound wide many. all_acknowledged state sound wide r comm count many new reply
