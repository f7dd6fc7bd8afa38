use Rattle.std.proofs.Common.{refl}
use Rattle.ulfm_intruder.proofs.read_round.ReadRound.new.Goals as goal

pub returns : goal.returns
returns g c = rw c.unit.ensures refl
