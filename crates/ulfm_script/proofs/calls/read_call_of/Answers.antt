use Rattle.std.proofs.Common.{◌∙◌}
use Rattle.ulfm_script.proofs.Spelled.{found, spelled_in_again}
use Rattle.ulfm_script.proofs.calls.read_call_of.Goals as goal

pub returns-clause-only : goal.returns-clause-only
returns-clause-only c = λ call h. c.parse_call.ensures ∙ spelled_in_again c.args.version c.args.line.now call h

pub returns-clause-found : goal.returns-clause-found
returns-clause-found c = found c.args.version c.args.line.now c.parse_call.result c.parse_call.ensures
