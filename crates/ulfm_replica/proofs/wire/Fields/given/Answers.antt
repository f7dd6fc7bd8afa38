use Rattle.std.proofs.Common.{Some, ap}
use Rattle.ulfm_words.proofs.SlotWords.{same_given}
use Rattle.ulfm_replica.proofs.wire.Fields.given.Goals as goal

pub returns : goal.returns
returns g c = λ given offer known acked. ap Some (same_given _ given offer known acked)
