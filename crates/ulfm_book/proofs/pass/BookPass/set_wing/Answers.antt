use Rattle.std.proofs.Common.{◌≡◌, ◌++◌, ◌∷◌, [], false, sym, ◌∙◌, Err, Ok, ap, arith, subst}
use Rattle.ulfm_words.specs.{Blocks.{MaySetWing}, Places.{IsWingWithin}, Steps.{Sight, view_of}}
use Rattle.ulfm_words.proofs.Standing.{at_wing}
use Rattle.ulfm_book.specs.{Logs.{limits_in}, Rules.{name_of, sight_of}, Layout.{wing_offset}}
use Rattle.ulfm_book.proofs.{Owning.{own_word}, Spreading.{add_wing_moves, may_own, may_some}, Telling.{set_wing_tells}}
use Rattle.ulfm_book.proofs.pass.BookPass.set_wing.Goals as goal
use Rattle.ulfm_book.proofs.pass.BookPass.set_wing.Goals.{then-before-eq0, else-before-eq0, Then-before-eq0-2, Else-before-eq0-2}

pub compare_exchange-before-requires : goal.compare_exchange-before-requires
compare_exchange-before-requires g c =
    let seen = c.self.inside.seen in
    let own = own_word c.self.inside.seen.log c.self.inside.seen.book c.self.inside.trail.log.items c.args.self.now (λ n. IsWingWithin n c.args.wing) (λ n. wing_offset n c.args.wing) c.args.word.now c.self.view_is c.requires.within c.requires.word in
    let view = view_of g.P.Packed.pack (name_of seen.book (limits_in seen.log)) (sight_of seen.book seen.log c.self.inside.trail.log.items) in
    let may : MaySetWing g.P.Meld.meld g.P.Packed.pack view c.args.wing c.args.upper =
    subst (λ (s : Sight _). MaySetWing g.P.Meld.meld g.P.Packed.pack (view_of g.P.Packed.pack s.name s) c.args.wing c.args.upper) (sym c.self.view_is) c.requires.may in
    let pos = may_some g.P.Meld.meld g.P.Packed.pack view c.args.wing c.args.upper may in
    let same = may_own g.P.Meld.meld g.P.Packed.pack view c.args.wing c.args.upper may in
    let moves = add_wing_moves g.P.Meld.meld g.P.Packed.pack c.args.wing seen.log c.args.word.now.key c.self.invariant own.within own.key c.args.upper c.plain-offer.result.ask pos same in
    (own.tracked, own.book, c.no_pen-pen.ensures.0 ∙ own.book, c.plain-offer.ensures.0, rw (c.plain-offer.ensures.3, c.no_pen-pen.ensures.1) moves)

-- the step, with the word that stands after it
won : (g : _) (c : Then-before-eq0-2 g) → c.and-self-inside.result.log.items ≡ c.self.inside.trail.log.items ++ at_wing c.args.wing c.args.upper false ∷ []
won g c =
    let stands : c.if-before-eq0.stands ≡ c.args.upper = elim c.if-before-eq0.branch [ then-before-eq0 w ↦ w.stands-is | else-before-eq0 w ↦ absurd (w.if-before-eq0.false c.if-before-eq0-2.true) ] in
    subst (λ n. c.and-self-inside.result.log.items ≡ c.self.inside.trail.log.items ++ at_wing c.args.wing n false ∷ []) stands c.and-self-inside.ensures

lost : (g : _) (c : Else-before-eq0-2 g) → c.and-self-inside.result.log.items ≡ c.self.inside.trail.log.items ++ at_wing c.args.wing c.compare_exchange-before.result false ∷ []
lost g c =
    let stands : c.if-before-eq0.stands ≡ c.compare_exchange-before.result = elim c.if-before-eq0.branch [ then-before-eq0 w ↦ absurd (c.if-before-eq0-2.false w.if-before-eq0.true) | else-before-eq0 w ↦ w.stands-is ] in
    subst (λ n. c.and-self-inside.result.log.items ≡ c.self.inside.trail.log.items ++ at_wing c.args.wing n false ∷ []) stands c.and-self-inside.ensures

pub returns-then-before-eq0-2 : goal.returns-then-before-eq0-2
returns-then-before-eq0-2 g c =
    let seen = c.self.inside.seen in
    let now = c.compare_exchange-before.new.seen in
    set_wing_tells g.P.Meld.meld g.P.Packed.pack seen.book now.book seen.log now.log c.self.inside.trail.log.items c.and-self-inside.result.log.items c.args.wing c.args.word.now.key c.args.upper c.compare_exchange-before.result (Ok tt) c.args.self.now
    c.self.view_is (λ added. let won = added.won c.if-before-eq0-2.true in (won.0, won.1, tt)) c.requires.of c.requires.within (ap (λ w. w.key) c.requires.word) c.compare_exchange-before.ensures.0 c.compare_exchange-before.ensures.7 (won g ((goal.at.returns-then-before-eq0-2 g c).Then-before-eq0-2))

pub returns : goal.returns
returns g c =
    let seen = c.self.inside.seen in
    let now = c.compare_exchange-before.new.seen in
    set_wing_tells g.P.Meld.meld g.P.Packed.pack seen.book now.book seen.log now.log c.self.inside.trail.log.items c.and-self-inside.result.log.items c.args.wing c.args.word.now.key c.args.upper c.compare_exchange-before.result (Err c.compare_exchange-before.result) c.args.self.now
    c.self.view_is (λ added. let lost = added.lost c.if-before-eq0-2.false in (lost.0, omega (arith, c.if-before-eq0-2.false), lost.1)) c.requires.of c.requires.within (ap (λ w. w.key) c.requires.word) c.compare_exchange-before.ensures.0 c.compare_exchange-before.ensures.7 (lost g ((goal.at.returns g c).Else-before-eq0-2))
