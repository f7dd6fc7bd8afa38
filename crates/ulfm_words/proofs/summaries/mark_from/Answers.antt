use Rattle.std.proofs.Common.{sym, refl}
use Rattle.ulfm_words.specs.Slots.{is_mark_word}
use Rattle.ulfm_words.proofs.SlotWords.{mark_is, mark_word_is}
use Rattle.ulfm_words.proofs.summaries.mark_from.Goals as goal

pub returns-then-payload-eq0 : goal.returns-then-payload-eq0
returns-then-payload-eq0 g c =
    let holds = mark_word_is c.args.word c.if-known-gt0.true c.if-known-le1024.true c.if-acked-eq2047.true c.if-payload-eq0.true in
    sym (mark_is c.args.word _ (is_mark_word c.args.word) refl holds refl)
