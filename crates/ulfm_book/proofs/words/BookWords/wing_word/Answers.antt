use Rattle.ulfm_words.specs.Places.{IsWingWithin}
use Rattle.ulfm_book.specs.Layout.{wing_offset}
use Rattle.ulfm_book.proofs.{Opening.{word_of}, Seating.{wing_seat_lt}}
use Rattle.ulfm_book.proofs.words.BookWords.wing_word.Goals as goal

pub returns : goal.returns
returns g c =
    word_of c.self.inside.words.items c.self.inside.start.book c.self.inside.limits c.args.self.now (λ n. IsWingWithin n c.args.wing) (λ n. wing_offset n c.args.wing) c.wing_in_row.result c.index.result.now
    c.self.view_is c.requires (λ n. wing_seat_lt n c.args.wing) c.self.invariant.3 c.wing_in_row.ensures c.index.ensures
