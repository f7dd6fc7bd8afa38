use Rattle.std.proofs.Common.{rules}
use Rattle.ulfm_model.proofs.refusal.Refusal.name.Goals as goal

pub returns-in-ShrinkOpen : goal.returns-in-ShrinkOpen
returns-in-ShrinkOpen c = search rules steps 100000
