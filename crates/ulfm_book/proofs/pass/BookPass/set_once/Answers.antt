use Rattle.std.proofs.Common.{◌≡◌, sym, ◌∙◌, ap, subst}
use Rattle.ulfm_words.specs.{Places.{IsWithin}, Steps.{IsWinged, MaySet, Sight}}
use Rattle.ulfm_book.specs.{declared.line.Line.TheVariants.{Made}, Logs.{cached_in, history_in, limits_in, line_of}, Layout.{place_offset}}
use Rattle.ulfm_book.proofs.{Owning.{own_word}, Moving.{add_moves}, Telling.{lost_tells, won_tells}}
use Rattle.ulfm_book.proofs.pass.BookPass.set_once.Goals as goal

pub compare_exchange-found-requires : goal.compare_exchange-found-requires
compare_exchange-found-requires g c =
    let seen = c.self.inside.seen in
    let own = own_word c.self.inside.seen.log c.self.inside.seen.book c.self.inside.trail.log.items c.args.self.now (λ n. IsWithin n c.args.step.place) (λ n. place_offset n c.args.step.place) c.args.word.now c.self.view_is c.requires.within c.requires.word in
    let may : MaySet g.P.Meld.meld g.P.Packed.pack g.P.Packed.unpack (limits_in seen.log) (history_in seen.log) c.args.step =
    subst (λ s. MaySet g.P.Meld.meld g.P.Packed.pack g.P.Packed.unpack s.name.limits s.seen c.args.step) (sym c.self.view_is) c.requires.may in
    let winged : IsWinged g.P.Packed.pack (cached_in seen.log) may.entry.event =
    subst (λ (s : Sight _). IsWinged g.P.Packed.pack s.cached may.entry.event) (sym c.self.view_is) (c.requires.winged may.entry may.is_entry) in
    let ask : c.plain-offer.result.ask ≡ Made may.entry = c.plain-offer.ensures.1 ∙ ap line_of may.is_entry in
    let moves = add_moves g.P.Meld.meld g.P.Packed.pack c.args.step.place seen.log c.args.word.now.key c.self.invariant own.within own.key c.args.step.word may.entry may.word may.legal winged in
    (own.tracked, own.book, c.no_pen-pen.ensures.0 ∙ own.book, c.plain-offer.ensures.0, rw (c.plain-offer.ensures.3, c.no_pen-pen.ensures.1, ask) moves)

pub returns-then-found-eq0 : goal.returns-then-found-eq0
returns-then-found-eq0 g c =
    let seen = c.self.inside.seen in
    let now = c.compare_exchange-found.new.seen in
    let may = c.requires.may in
    let ask : c.plain-offer.result.ask ≡ Made may.entry = c.plain-offer.ensures.1 ∙ ap line_of may.is_entry in
    won_tells g.P.Meld.meld g.P.Packed.pack seen.book now.book seen.log now.log c.self.inside.trail.log.items c.and-self-inside.result.log.items g.P.Packed.unpack c.args.step c.args.word.now.key c.compare_exchange-found.result c.plain-offer.result.ask may.entry c.args.self.now
    c.self.view_is may.is_entry ask c.if-found-eq0.true c.requires.of c.requires.within (ap (λ w. w.key) c.requires.word) c.compare_exchange-found.ensures.0 c.compare_exchange-found.ensures.7 c.and-self-inside.ensures

pub returns : goal.returns
returns g c =
    let seen = c.self.inside.seen in
    let now = c.compare_exchange-found.new.seen in
    lost_tells g.P.Meld.meld g.P.Packed.pack seen.book now.book seen.log now.log c.self.inside.trail.log.items c.and-self-inside.result.log.items g.P.Packed.unpack c.args.step c.args.word.now.key c.compare_exchange-found.result c.plain-offer.result.ask c.args.self.now
    c.self.view_is c.if-found-eq0.false c.requires.of c.requires.within (ap (λ w. w.key) c.requires.word) c.compare_exchange-found.ensures.0 c.compare_exchange-found.ensures.7 c.and-self-inside.ensures
