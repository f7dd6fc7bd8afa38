use Rattle.std.proofs.Common.{◌≡◌, [], filter, not, position, None, Some, ap, sym, ◌∙◌}
use Rattle.ulfm_model.specs.Records.{Held}
use Rattle.ulfm_model.specs.Terms.{new_held}
use Rattle.ulfm_model.proofs.Places.{is_of, kept_all, kept_removed}
use Rattle.ulfm_model.proofs.held.release.Goals as goal
use Rattle.ulfm_model.proofs.held.release.Goals.{After-remove}

-- the others stay where one of the number goes
others : (g : _) (c : After-remove g) → filter (λ (x : Held). not (is_of c.args.comm x)) c.remove.new.self.items ≡ filter (λ (x : Held). not (is_of c.args.comm x)) c.args.held.now.items
others g c =
    let items = c.loop-i.held.items in
    let at : position (is_of c.args.comm) items ≡ Some c.in-Some.i = ap (position (is_of c.args.comm)) (sym c.deref.ensures.value) ∙ (sym c.place_of.ensures ∙ c.in-Some.is) in
    ap (filter (λ (x : Held). not (is_of c.args.comm x))) c.remove.ensures.items ∙ (kept_removed c.args.comm items c.in-Some.i (new_held 0 0 []) at ∙ c.loop-i.invariant.others)

pub loop-i-preserved : goal.loop-i-preserved
loop-i-preserved g c = record {
  others = others g (goal.at.loop-i-preserved g c).After-remove;
  room = c.remove.ensures.capacity ∙ c.loop-i.invariant.room;
}

pub loop-i-preserved-in-Some : goal.loop-i-preserved-in-Some
loop-i-preserved-in-Some g c = record {
  others = others g (goal.at.loop-i-preserved-in-Some g c).After-remove;
  room = c.remove.ensures.capacity ∙ c.loop-i.invariant.room;
}

pub returns-clause-items : goal.returns-clause-items
returns-clause-items g c =
    let items = c.loop-i.held.items in
    let none : position (is_of c.args.comm) items ≡ None = ap (position (is_of c.args.comm)) (sym c.deref.ensures.value) ∙ (sym c.place_of.ensures ∙ c.in_default.is) in
    sym (kept_all c.args.comm items none) ∙ c.loop-i.invariant.others
