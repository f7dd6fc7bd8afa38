use Rattle.std.proofs.Common.{ap}
use Rattle.ulfm_words.specs.Places.{IsWingWithin}
use Rattle.ulfm_book.specs.{Layout.{wing_offset}}
use Rattle.ulfm_book.proofs.{Owning.{own_word}, Spreading.{look_wing_moves}, Telling.{load_wing_tells}}
use Rattle.ulfm_book.proofs.pass.BookPass.load_wing.Goals as goal

pub returns : goal.returns
returns g c =
    let seen = c.self.inside.seen in
    let now = c.load-found.new.seen in
    load_wing_tells g.P.Meld.meld g.P.Packed.pack seen.book now.book seen.log now.log c.self.inside.trail.log.items c.and-self-inside.result.log.items c.args.wing c.args.word.now.key c.load-found.result c.args.self.now
    c.self.view_is c.requires.of c.requires.within (ap (λ w. w.key) c.requires.word) c.load-found.ensures.0 c.load-found.ensures.6.1 c.and-self-inside.ensures c.requires.stands

pub load-found-requires : goal.load-found-requires
load-found-requires g c =
    let own = own_word c.self.inside.seen.log c.self.inside.seen.book c.self.inside.trail.log.items c.args.self.now (λ n. IsWingWithin n c.args.wing) (λ n. wing_offset n c.args.wing) c.args.word.now c.self.view_is c.requires.within c.requires.word in
    let moves = look_wing_moves g.P.Meld.meld g.P.Packed.pack c.args.wing c.self.inside.seen.log c.args.word.now.key c.self.invariant own.within own.key c.plain-offer.result.ask in
    (own.tracked, own.book, c.plain-offer.ensures.0, rw c.plain-offer.ensures.3 moves)
