use Rattle.std.proofs.Common.{◌≡◌, Some, ap, sym, ◌∙◌}
use Rattle.std.specs.List.{position}
use Rattle.ulfm_model.specs.Records.{Held}
use Rattle.ulfm_model.proofs.Places.{change_is, change_missing, is_of}
use Rattle.ulfm_model.proofs.held.acknowledge.Goals as goal

pub returns-in-Some-clause-items : goal.returns-in-Some-clause-items
returns-in-Some-clause-items g c =
    let items = c.args.held.now.items in
    let at : position (is_of c.args.comm) items ≡ Some c.in-Some.i = ap (position (is_of c.args.comm)) (sym c.deref.ensures.value) ∙ (sym c.place_of.ensures ∙ c.in-Some.is) in
    let f : Held → Held = (λ y. record y { acked = c.args.count }) in
    change_is items c.args.comm c.in-Some.i c.index_mut-x.result.now _ f at (ap f (c.x.view_is ∙ c.index_mut-x.ensures.value))

pub returns-in_default-clause-items : goal.returns-in_default-clause-items
returns-in_default-clause-items g c = change_missing c.args.held.now.items c.args.comm _ (ap (position (is_of c.args.comm)) (sym c.deref.ensures.value) ∙ (sym c.place_of.ensures ∙ c.in_default.is))
