use Rattle.ulfm_laws.specs.Flags.{flag_unpack}
use Rattle.ulfm_words.proofs.{Pairs.{have_one_pair}, SlotWords.{flags_exact}}
use Rattle.ulfm_words.proofs.laws.slots_have_one_word.Goals as goal

pub returns : goal.returns
returns c = have_one_pair flag_unpack (λ x. x.bits) flags_exact
