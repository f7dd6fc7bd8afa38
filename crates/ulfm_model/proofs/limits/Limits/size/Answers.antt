use Rattle.std.proofs.Common.{rules}
use Rattle.ulfm_model.proofs.limits.Limits.size.Goals as goal

pub returns : goal.returns
returns c = search rules steps 400000
