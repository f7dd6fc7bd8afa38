use Rattle.ulfm_lines.proofs.ReadLemmas.{one_line}
use Rattle.ulfm_lines.proofs.laws.one_text_tells_one_line.Goals as goal

pub returns : goal.returns
returns c = one_line
