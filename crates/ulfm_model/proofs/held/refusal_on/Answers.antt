use Rattle.std.proofs.Common.{rules}
use Rattle.ulfm_model.proofs.held.refusal_on.Goals as goal

pub returns-in-Agree-2 : goal.returns-in-Agree-2
returns-in-Agree-2 g c = search rules steps 2000000

pub returns-in-Shrink-2 : goal.returns-in-Shrink-2
returns-in-Shrink-2 g c = search rules steps 2000000

pub returns-in-Shrink-3 : goal.returns-in-Shrink-3
returns-in-Shrink-3 g c = search rules steps 2000000

pub returns-in-Barrier-2 : goal.returns-in-Barrier-2
returns-in-Barrier-2 g c = search rules steps 2000000

pub returns-in-Poll : goal.returns-in-Poll
returns-in-Poll g c = search rules steps 2000000

pub returns-in_default : goal.returns-in_default
returns-in_default g c = search rules steps 2000000

pub returns-in_default-2 : goal.returns-in_default-2
returns-in_default-2 g c = search rules steps 2000000

pub returns-in_default-3 : goal.returns-in_default-3
returns-in_default-3 g c = search rules steps 2000000

pub returns-in_default-5 : goal.returns-in_default-5
returns-in_default-5 g c = search rules steps 2000000
