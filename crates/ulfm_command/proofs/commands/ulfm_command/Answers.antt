use Rattle.std.proofs.Common.{rules}
use Rattle.ulfm_command.specs.CommandLines.{bare}
use Rattle.ulfm_command.proofs.commands.ulfm_command.Goals as goal

pub returns : goal.returns
returns c = c.with_verbs.ensures bare (search rules)
