use Rattle.ulfm_filters.proofs.Whole.{failing_legal}
use Rattle.ulfm_filters.proofs.written_laws.failing_traces_are_legal.Goals as goal

pub returns : goal.returns
returns c = failing_legal
