use Rattle.std.proofs.Common.{◌∙◌}
use Rattle.ulfm_script.specs.declared.version.Version.TheVariants.{First}
use Rattle.ulfm_script.proofs.Spelled.{found, spelled_again}
use Rattle.ulfm_script.proofs.calls.read_call.Goals as goal

pub returns-clause-only : goal.returns-clause-only
returns-clause-only c = λ call h. c.parse_call.ensures ∙ spelled_again c.args.line.now call h

pub returns-clause-found : goal.returns-clause-found
returns-clause-found c = found First c.args.line.now c.parse_call.result c.parse_call.ensures
