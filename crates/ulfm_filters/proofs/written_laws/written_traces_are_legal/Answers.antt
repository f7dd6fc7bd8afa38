use Rattle.ulfm_filters.proofs.Whole.{written_legal}
use Rattle.ulfm_filters.proofs.written_laws.written_traces_are_legal.Goals as goal

pub returns : goal.returns
returns c = written_legal
