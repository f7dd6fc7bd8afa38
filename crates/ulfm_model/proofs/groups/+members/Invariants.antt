use Rattle.std.proofs.Common.{length}
use Rattle.ulfm_model.proofs.groups.+members.Given as goal

abbrev pub decreases-members : goal.decreases-members
decreases-members g l = length l.history.now
