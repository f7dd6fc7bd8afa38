use Rattle.ulfm_model.specs.Blocks.{IsBlockWithin}
use Rattle.ulfm_book.specs.Layout.{block_offset}
use Rattle.ulfm_book.proofs.{Opening.{word_of}, Seating.{block_seat_lt}}
use Rattle.ulfm_book.proofs.words.BookWords.block_word.Goals as goal

pub returns : goal.returns
returns g c =
    word_of c.self.inside.words.items c.self.inside.start.book c.self.inside.limits c.args.self.now (λ n. IsBlockWithin n c.args.block) (λ n. block_offset n c.args.block) c.block_in_row.result c.index.result.now
    c.self.view_is c.requires (λ n. block_seat_lt n c.args.block) c.self.invariant.3 c.block_in_row.ensures c.index.ensures
