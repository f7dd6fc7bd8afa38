use Rattle.std.proofs.Common.{ap, sym, Some, mod-eq_of_lt}
use Rattle.ulfm_contributions.specs.Greatests.{same_greatest}
use Rattle.ulfm_contributions.proofs.greatest.GreatestPacked.unpack.Goals as goal

pub returns : goal.returns
returns c = ap Some (same_greatest _ _ (sym (mod-eq_of_lt c.ranges.word.fits)))
