use Rattle.ulfm_words.proofs.Pairs.{slot_pair}
use Rattle.ulfm_words.proofs.laws.slots_are_read.Goals as goal

pub returns : goal.returns
returns g c = λ s. slot_pair g.P.Packed.unpack g.P.Packed.pack g.met.P.Packed.unpack_pack g.met.P.Packed.pack_fits s
