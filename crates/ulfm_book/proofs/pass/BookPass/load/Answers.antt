use Rattle.std.proofs.Common.{ap}
use Rattle.ulfm_words.specs.Places.{IsWithin}
use Rattle.ulfm_book.specs.{Layout.{place_offset}}
use Rattle.ulfm_book.proofs.{Owning.{own_word}, Moving.{look_moves}, Telling.{load_tells}}
use Rattle.ulfm_book.proofs.pass.BookPass.load.Goals as goal

pub load-found-requires : goal.load-found-requires
load-found-requires g c =
    let own = own_word c.self.inside.seen.log c.self.inside.seen.book c.self.inside.trail.log.items c.args.self.now (λ n. IsWithin n c.args.place) (λ n. place_offset n c.args.place) c.args.word.now c.self.view_is c.requires.within c.requires.word in
    let moves = look_moves g.P.Meld.meld g.P.Packed.pack c.args.place c.self.inside.seen.log c.args.word.now.key c.self.invariant own.within own.key c.plain-offer.result.ask in
    (own.tracked, own.book, c.plain-offer.ensures.0, rw c.plain-offer.ensures.3 moves)

pub returns-clause-loads : goal.returns-clause-loads
returns-clause-loads g c =
    let seen = c.self.inside.seen in
    let now = c.load-found.new.seen in
    load_tells g.P.Meld.meld g.P.Packed.pack seen.book now.book seen.log now.log c.self.inside.trail.log.items c.and-self-inside.result.log.items c.args.place c.args.word.now.key c.load-found.result c.args.self.now
    c.self.view_is c.requires.of c.requires.within (ap (λ w. w.key) c.requires.word) c.load-found.ensures.0 c.load-found.ensures.6.1 c.and-self-inside.ensures
