use Rattle.std.proofs.Common.{◌+◌, ◌*◌, ap}
use Rattle.ulfm_book.proofs.Opening.{opened_kept}
use Rattle.ulfm_book.proofs.words.BookWords.in_row.Goals as goal

pub open_row-start-requires : goal.open_row-start-requires
open_row-start-requires g c =
    (opened_kept g.P.Meld.meld g.P.Packed.pack c.args.limits _ (ap (λ n. n + 4 * (c.args.limits.rounds * c.args.limits.comms)) c.starts_in-starts.ensures.blocks), λ _. tt, c.alone.ensures.1)
