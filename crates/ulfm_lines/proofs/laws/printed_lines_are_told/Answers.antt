use Rattle.ulfm_lines.proofs.ReadLemmas.{printed_told}
use Rattle.ulfm_lines.proofs.laws.printed_lines_are_told.Goals as goal

pub returns : goal.returns
returns c = printed_told
