use Rattle.std.proofs.Common.{◌≡◌, ◌++◌, ◌∷◌, [], None, Some, ap, sym, ◌∙◌, arith}
use Rattle.std.specs.List.{position}
use Rattle.std.proofs.lemmas.Grind.{common_steps}
use Rattle.ulfm_model.specs.Records.{Held}
use Rattle.ulfm_model.proofs.Places.{change_pushed, is_of, push_missing}
use Rattle.ulfm_model.proofs.held.take_in.Goals as goal
use Rattle.ulfm_model.proofs.held.take_in.Goals.{After-push}

-- there is room
pushed : (g : _) (c : After-push g) → c.push.new.self.items ≡ c.args.held.now.items ++ c.args.made ∷ []
pushed g c = grind (arith, common_steps)

pub returns-in-Some-clause-items : goal.returns-in-Some-clause-items
returns-in-Some-clause-items g c =
    let items = c.args.held.now.items in
    let at : position (is_of c.args.comm) items ≡ Some c.in-Some.i = ap (position (is_of c.args.comm)) (sym c.deref.ensures.value) ∙ (sym c.place_of-place.ensures ∙ c.in-Some.is) in
    let f : Held → Held = (λ y. record y { request = None }) in
    change_pushed items c.push.new.self.items c.args.made c.args.comm c.in-Some.i c.index_mut-parent.result.now _ f at (pushed g (goal.at.returns-in-Some-clause-items g c).After-push) (ap f (c.parent.view_is ∙ c.index_mut-parent.ensures.value))

pub returns-in_default-clause-items : goal.returns-in_default-clause-items
returns-in_default-clause-items g c =
    push_missing c.args.held.now.items c.push.new.self.items c.args.made c.args.comm _ (ap (position (is_of c.args.comm)) (sym c.deref.ensures.value) ∙ (sym c.place_of-place.ensures ∙ c.in_default.is))
    (pushed g (goal.at.returns-in_default-clause-items g c).After-push)
