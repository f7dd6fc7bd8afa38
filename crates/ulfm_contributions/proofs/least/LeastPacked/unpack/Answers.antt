use Rattle.std.proofs.Common.{ap, sym, Some, mod-eq_of_lt}
use Rattle.ulfm_contributions.specs.Leasts.{same_least}
use Rattle.ulfm_contributions.proofs.least.LeastPacked.unpack.Goals as goal

pub returns : goal.returns
returns c = ap Some (same_least _ _ (sym (mod-eq_of_lt c.ranges.word.fits)))
