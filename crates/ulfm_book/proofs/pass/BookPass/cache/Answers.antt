use Rattle.std.proofs.Common.{Err, Ok, refl, sym, ◌∙◌, ap, subst}
use Rattle.ulfm_model.specs.Blocks.{IsBlock, IsBlockWithin}
use Rattle.ulfm_words.specs.{Blocks.{IsSpreadBlock}, Steps.{Sight, view_of}}
use Rattle.ulfm_book.specs.{Logs.{history_in, limits_in}, Rules.{sight_of}, Layout.{block_offset}}
use Rattle.ulfm_book.proofs.{Owning.{own_word}, Caching.{add_block_moves}, Telling.{cache_tells}}
use Rattle.ulfm_book.proofs.pass.BookPass.cache.Goals as goal

pub compare_exchange-stood-requires : goal.compare_exchange-stood-requires
compare_exchange-stood-requires g c =
    let seen = c.self.inside.seen in
    let own = own_word c.self.inside.seen.log c.self.inside.seen.book c.self.inside.trail.log.items c.args.self.now (λ n. IsBlockWithin n c.args.block) (λ n. block_offset n c.args.block) c.args.word.now c.self.view_is c.requires.within c.requires.word in
    let may : IsBlock g.P.Meld.meld g.P.Packed.pack (limits_in seen.log).ranks (history_in seen.log) c.args.block c.args.said =
    subst (λ s. IsBlock g.P.Meld.meld g.P.Packed.pack s.name.limits.ranks s.seen c.args.block c.args.said) (sym c.self.view_is) c.requires.may in
    let spread : IsSpreadBlock (view_of g.P.Packed.pack c.args.self.now.name (sight_of seen.book seen.log c.self.inside.trail.log.items)) c.args.block =
    subst (λ (s : Sight _). IsSpreadBlock (view_of g.P.Packed.pack c.args.self.now.name s) c.args.block) (sym c.self.view_is) c.requires.winged in
    let moves = add_block_moves g.P.Meld.meld g.P.Packed.pack c.args.block seen.log c.args.word.now.key c.self.invariant own.within own.key c.args.said spread.0 c.plain-offer.result.ask may spread.2 in
    (own.tracked, own.book, c.no_pen-pen.ensures.0 ∙ own.book, c.plain-offer.ensures.0, rw (c.plain-offer.ensures.3, c.no_pen-pen.ensures.1) moves)

pub returns-then-stood-eq0 : goal.returns-then-stood-eq0
returns-then-stood-eq0 g c =
    let seen = c.self.inside.seen in
    let now = c.compare_exchange-stood.new.seen in
    cache_tells g.P.Meld.meld g.P.Packed.pack seen.book now.book seen.log now.log c.self.inside.trail.log.items c.and-self-inside.result.log.items c.args.block c.args.word.now.key c.args.said c.compare_exchange-stood.result (Ok tt) c.args.self.now
    c.self.view_is c.if-stood-eq0.true (λ added. added.won c.if-stood-eq0.true) c.requires.of c.requires.within (ap (λ w. w.key) c.requires.word) c.compare_exchange-stood.ensures.0 c.compare_exchange-stood.ensures.7 c.and-self-inside.ensures

pub returns : goal.returns
returns g c =
    let seen = c.self.inside.seen in
    let now = c.compare_exchange-stood.new.seen in
    cache_tells g.P.Meld.meld g.P.Packed.pack seen.book now.book seen.log now.log c.self.inside.trail.log.items c.and-self-inside.result.log.items c.args.block c.args.word.now.key c.args.said c.compare_exchange-stood.result (Err c.compare_exchange-stood.result) c.args.self.now
    c.self.view_is refl (λ added. added.lost c.if-stood-eq0.false) c.requires.of c.requires.within (ap (λ w. w.key) c.requires.word) c.compare_exchange-stood.ensures.0 c.compare_exchange-stood.ensures.7 c.and-self-inside.ensures
