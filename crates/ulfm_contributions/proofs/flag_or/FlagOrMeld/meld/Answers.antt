use Rattle.std.proofs.lemmas.Nat.{or_lt}
use Rattle.ulfm_laws.specs.Ranges.{payload_bits}
use Rattle.ulfm_contributions.proofs.flag_or.FlagOrMeld.meld.Goals as goal

pub invariant_of-result : goal.invariant_of-result
invariant_of-result c = record { fits = or_lt payload_bits c.args.self.now.bits c.args.other.now.bits c.args.self.now.fits c.args.other.now.fits }
