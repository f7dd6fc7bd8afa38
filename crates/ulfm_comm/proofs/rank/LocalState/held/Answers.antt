use Rattle.std.proofs.Common.{◌≡◌, Some, ap, sym, ◌∙◌}
use Rattle.std.specs.List.{position}
use Rattle.ulfm_model.specs.Records.{Record, held_at}
use Rattle.ulfm_model.proofs.Places.{find_is, find_missing, is_of}
use Rattle.ulfm_comm.proofs.rank.LocalState.held.Goals as goal

pub returns-in-Some-clause-held : goal.returns-in-Some-clause-held
returns-in-Some-clause-held g c =
    let items = c.self.inside.held.items in
    let at : position (is_of c.args.comm) items ≡ Some c.in-Some.i = ap (position (is_of c.args.comm)) (sym c.deref.ensures.value) ∙
    (sym c.place_of.ensures ∙ c.in-Some.is) in
    ap (λ (own : Record). held_at own c.args.comm) (sym c.self.view_is) ∙ (find_is items c.args.comm c.in-Some.i c.index.result.now at ∙ ap Some
    (sym c.index.ensures))

pub returns-in-None-clause-held : goal.returns-in-None-clause-held
returns-in-None-clause-held g c =
    let items = c.self.inside.held.items in
    ap (λ (own : Record). held_at own c.args.comm) (sym c.self.view_is) ∙ find_missing items c.args.comm
    (ap (position (is_of c.args.comm)) (sym c.deref.ensures.value) ∙ (sym c.place_of.ensures ∙ c.in-None.is))
