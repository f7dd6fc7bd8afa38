use Rattle.std.proofs.Common.{rules}
use Rattle.ulfm_model.proofs.contribution.ContributionClone.clone.Goals as goal

pub returns : goal.returns
returns g c = search rules steps 100000
