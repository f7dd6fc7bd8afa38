use Rattle.std.proofs.Common.{rules}
use Rattle.ulfm_steps.proofs.read_on.ReadOn.is_done.Goals as goal

pub returns : goal.returns
returns c = search rules steps 100000
