use Rattle.ulfm_words.specs.Places.{IsWithin}
use Rattle.ulfm_book.specs.Layout.{place_offset}
use Rattle.ulfm_book.proofs.{Opening.{word_of}, Seating.{seat_in_row}}
use Rattle.ulfm_book.proofs.words.BookWords.word.Goals as goal

pub returns : goal.returns
returns g c =
    word_of c.self.inside.words.items c.self.inside.start.book c.self.inside.limits c.args.self.now (λ n. IsWithin n c.args.place) (λ n. place_offset n c.args.place) c.place_in_row.result c.index.result.now
    c.self.view_is c.requires (λ n. seat_in_row n c.args.place) c.self.invariant.3 c.place_in_row.ensures c.index.ensures
