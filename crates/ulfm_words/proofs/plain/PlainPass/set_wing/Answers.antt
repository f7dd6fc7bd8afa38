use Rattle.std.proofs.Common.{◌≡◌, ◌++◌, ◌∷◌, [], false, ap, subst, sym, vec_capacity, ◌∙◌}
use Rattle.ulfm_words.specs.Pass.{entries}
use Rattle.ulfm_words.proofs.{Caching.{lost_wing_stood, lost_wing_tells, still_holds, won_wing_stood, won_wing_tells}, Standing.{at_wing}, Tried.{tried_wing}}
use Rattle.ulfm_words.proofs.plain.PlainPass.set_wing.Goals as goal
use Rattle.ulfm_words.proofs.plain.PlainPass.set_wing.Goals.{Then-before-ne0, After-set_wing, then-before-eq0, else-before-eq0}

-- the word that stands after the step
lost : (g : _) (c : Then-before-ne0 g) → c.if-before-eq0.stands ≡ c.wing-before.result
lost g c = elim c.if-before-eq0.branch [ then-before-eq0 w ↦ absurd (c.if-before-ne0.true w.if-before-eq0.true) | else-before-eq0 w ↦ w.stands-is ]

won : (g : _) (c : After-set_wing g) → c.if-before-eq0.stands ≡ c.args.word
won g c = elim c.if-before-eq0.branch [ then-before-eq0 w ↦ w.stands-is | else-before-eq0 w ↦ absurd (w.if-before-eq0.false c.if-before-ne0.false) ]

pub invariant_of-self : goal.invariant_of-self
invariant_of-self g c =
    still_holds g.P.Meld.meld g.P.Packed.pack (entries g.P.Packed.unpack c.self.inside.row.limits c.self.inside.row.words c.self.inside.journal.items) c.self.inside.sides c.self.inside.trail.log.items c.and-self-inside.result.log.items _ c.and-self-inside.ensures c.self.invariant
    (lost_wing_stood g.P.Meld.meld g.P.Packed.pack g.P.Packed.unpack c.self.inside.row.limits c.args.self.now c.self.inside.row.words c.self.inside.sides c.self.inside.journal.items (vec_capacity c.self.inside.journal) c.self.inside.trail.log.items c.and-self-inside.result.log.items c.self.view_is c.self.invariant.0 c.self.invariant.1 c.self.invariant.2 c.args.wing c.wing-before.result c.requires.within c.wing-before.ensures c.args.word c.requires.may c.if-before-ne0.true (c.and-self-inside.ensures ∙ ap (λ n. c.self.inside.trail.log.items ++ at_wing c.args.wing n false ∷ []) (lost g c)))

pub returns-then-before-ne0 : goal.returns-then-before-ne0
returns-then-before-ne0 g c = lost_wing_tells g.P.Meld.meld g.P.Packed.pack g.P.Packed.unpack c.self.inside.row.limits c.args.self.now c.self.inside.row.words c.self.inside.sides c.self.inside.journal.items (vec_capacity c.self.inside.journal) c.self.inside.trail.log.items c.and-self-inside.result.log.items c.self.view_is c.self.invariant.0 c.self.invariant.1 c.self.invariant.2 c.args.wing c.wing-before.result c.requires.within c.wing-before.ensures c.args.word c.requires.may c.if-before-ne0.true c.self.invariant.3 (c.and-self-inside.ensures ∙ ap (λ n. c.self.inside.trail.log.items ++ at_wing c.args.wing n false ∷ []) (lost g c))

pub invariant_of-self-2 : goal.invariant_of-self-2
invariant_of-self-2 g c = (
  c.self.invariant.0,
  c.set_wing.ensures.limits ∙ c.self.invariant.1,
  won_wing_stood g.P.Meld.meld g.P.Packed.pack g.P.Packed.unpack c.self.inside.row.limits c.args.self.now c.self.inside.row.words c.self.inside.sides c.self.inside.journal.items (vec_capacity c.self.inside.journal) c.self.inside.trail.log.items c.and-self-inside.result.log.items c.self.view_is c.self.invariant.0 c.self.invariant.1 c.self.invariant.2 c.args.wing c.wing-before.result c.requires.within c.wing-before.ensures c.args.word c.requires.may c.if-before-ne0.false (c.and-self-inside.ensures ∙ ap (λ n. c.self.inside.trail.log.items ++ at_wing c.args.wing n false ∷ []) (won g c))
      c.set_wing.new.self c.set_wing.ensures.limits c.set_wing.ensures.set c.set_wing.ensures.others c.set_wing.ensures.blocks,
  tried_wing c.self.inside.sides c.set_wing.new.self c.self.inside.trail.log.items c.and-self-inside.result.log.items c.args.wing c.args.word c.set_wing.ensures.limits c.set_wing.ensures.others (c.and-self-inside.ensures ∙ ap (λ n. c.self.inside.trail.log.items ++ at_wing c.args.wing n false ∷ []) (won g c)) c.self.invariant.3,
)

pub returns : goal.returns
returns g c = won_wing_tells g.P.Meld.meld g.P.Packed.pack g.P.Packed.unpack c.self.inside.row.limits c.args.self.now c.self.inside.row.words c.self.inside.sides c.self.inside.journal.items (vec_capacity c.self.inside.journal) c.self.inside.trail.log.items c.and-self-inside.result.log.items c.self.view_is c.self.invariant.0 c.self.invariant.1 c.self.invariant.2 c.args.wing c.wing-before.result c.requires.within c.wing-before.ensures c.args.word c.requires.may (c.and-self-inside.ensures ∙ ap (λ n. c.self.inside.trail.log.items ++ at_wing c.args.wing n false ∷ []) (won g c))
