use Rattle.ulfm_comm.proofs.Opening.{each_fits}
use Rattle.ulfm_comm.proofs.world.World.open.Goals as goal

pub returns-in-Ok-clause-fits : goal.returns-in-Ok-clause-fits
returns-in-Ok-clause-fits g c = rw c.in-Ok.ensures (rw c.limits-limits.ensures.limits (each_fits g.P.Meld.meld (g.W.Words.name c.args.words).limits))
