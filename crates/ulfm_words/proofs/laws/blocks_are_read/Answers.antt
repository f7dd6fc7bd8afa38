use Rattle.ulfm_words.proofs.{BlockWords.{are_of_some}, Pairs.{are_read}}
use Rattle.ulfm_words.proofs.laws.blocks_are_read.Goals as goal

pub returns-clause-read : goal.returns-clause-read
returns-clause-read g c = are_read g.P.Packed.unpack g.P.Packed.pack g.met.P.Packed.unpack_pack g.met.P.Packed.pack_fits

pub returns-clause-some : goal.returns-clause-some
returns-clause-some g c = are_of_some g.P.Meld.meld
