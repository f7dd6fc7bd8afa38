use Rattle.std.proofs.Common.{Some, ap}
use Rattle.ulfm_words.proofs.SlotWords.{same_mark}
use Rattle.ulfm_replica.proofs.wire.Fields.mark.Goals as goal

pub returns : goal.returns
returns c = λ mark known. ap Some (same_mark _ mark known)
