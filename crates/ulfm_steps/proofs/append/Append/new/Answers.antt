use Rattle.std.proofs.Common.{rules}
use Rattle.ulfm_steps.proofs.append.Append.new.Goals as goal

pub returns : goal.returns
returns c = search rules steps 100000
