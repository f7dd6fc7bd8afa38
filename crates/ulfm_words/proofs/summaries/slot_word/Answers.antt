use Rattle.std.proofs.Common.{ap, sym, ◌∙◌}
use Rattle.ulfm_model.specs.{Blocks.{block_word}, Words.{first_word}}
use Rattle.ulfm_words.proofs.BlockWords.{slot_is_said}
use Rattle.ulfm_words.proofs.summaries.slot_word.Goals as goal

pub returns : goal.returns
returns g c = c.block_word.ensures ∙ (ap (block_word g.P.Packed.pack) c.said_by.ensures ∙ ap first_word (sym (slot_is_said g.P.Packed.pack c.args.slot.now)))
