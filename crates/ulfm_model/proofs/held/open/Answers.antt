use Rattle.std.proofs.Common.{◌≡◌, Some, ap, sym, ◌∙◌}
use Rattle.std.specs.List.{position}
use Rattle.ulfm_model.specs.{Answers.{opened}, Records.{Held}}
use Rattle.ulfm_model.proofs.Places.{change_is, change_missing, is_of}
use Rattle.ulfm_model.proofs.held.open.Goals as goal

pub returns-in-Some-clause-items : goal.returns-in-Some-clause-items
returns-in-Some-clause-items g c =
    let items = c.args.held.now.items in
    let at : position (is_of c.args.comm) items ≡ Some c.in-Some.i = ap (position (is_of c.args.comm)) (sym c.deref.ensures.value) ∙ (sym c.place_of.ensures ∙ c.in-Some.is) in
    let f : Held → Held = (λ y. opened y (Some c.args.request)) in
    change_is items c.args.comm c.in-Some.i c.index_mut-x.result.now c.open_on.new.x f at (c.open_on.ensures ∙ ap f c.index_mut-x.ensures.value)

pub returns-in_default-clause-items : goal.returns-in_default-clause-items
returns-in_default-clause-items g c = change_missing c.args.held.now.items c.args.comm _ (ap (position (is_of c.args.comm)) (sym c.deref.ensures.value) ∙ (sym c.place_of.ensures ∙ c.in_default.is))
