use Rattle.std.proofs.Common.{ap, sym, Some, mod-eq_of_lt}
use Rattle.ulfm_contributions.specs.Ors.{same_or}
use Rattle.ulfm_contributions.proofs.flag_or.FlagOrPacked.unpack.Goals as goal

pub returns : goal.returns
returns c = ap Some (same_or _ _ (sym (mod-eq_of_lt c.ranges.word.fits)))
