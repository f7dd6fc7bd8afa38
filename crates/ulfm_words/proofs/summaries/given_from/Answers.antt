use Rattle.std.proofs.Common.{sym, refl}
use Rattle.ulfm_words.specs.Slots.{are_counts}
use Rattle.ulfm_words.proofs.SlotWords.{given_is, counts_are}
use Rattle.ulfm_words.proofs.summaries.given_from.Goals as goal

pub returns-then-known-le1024 : goal.returns-then-known-le1024
returns-then-known-le1024 g c =
    sym (given_is c.args.offer _ c.args.known c.args.acked (are_counts c.args.known c.args.acked) refl (counts_are c.args.known c.args.acked c.if-acked-known.true c.if-known-le1024.true) refl refl refl)
