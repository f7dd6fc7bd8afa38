use Rattle.ulfm_filters.proofs.Reading.{read_same}
use Rattle.ulfm_filters.proofs.migration_laws.texts_are_read_as_runs_read_them.Goals as goal

pub returns : goal.returns
returns c = λ line rest lines none. read_same line rest lines none
