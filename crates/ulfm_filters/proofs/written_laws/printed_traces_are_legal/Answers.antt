use Rattle.ulfm_filters.proofs.Whole.{printed_legal}
use Rattle.ulfm_filters.proofs.written_laws.printed_traces_are_legal.Goals as goal

pub returns : goal.returns
returns c = printed_legal
