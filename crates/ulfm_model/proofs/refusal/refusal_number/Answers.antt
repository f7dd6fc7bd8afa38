use Rattle.std.proofs.Common.{rules}
use Rattle.ulfm_model.proofs.refusal.refusal_number.Goals as goal

pub returns-in-Idle : goal.returns-in-Idle
returns-in-Idle c = search rules steps 100000
