use Rattle.std.proofs.Common.{◌∙◌}
use Rattle.ulfm_script.proofs.HeaderLemmas.{header_again, headers_found}
use Rattle.ulfm_script.proofs.header.read_header.Goals as goal

pub returns-clause-found : goal.returns-clause-found
returns-clause-found c = headers_found c.args.kind c.args.line.now c.parse_header.result c.parse_header.ensures.exact

pub returns-clause-only : goal.returns-clause-only
returns-clause-only c = λ limits may e. c.parse_header.ensures.exact ∙ header_again c.args.kind c.args.line.now limits may e
