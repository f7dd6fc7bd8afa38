use Rattle.ulfm_words.proofs.Pairs.{have_one_word}
use Rattle.ulfm_words.proofs.laws.blocks_have_one_word.Goals as goal

pub returns : goal.returns
returns g c = have_one_word g.P.Packed.unpack g.P.Packed.pack
