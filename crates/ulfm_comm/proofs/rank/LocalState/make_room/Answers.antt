use Rattle.std.proofs.Common.{◌≡◌, ◌≤◌, length, take, ap, ap₂, sym, ◌∙◌, subst}
use Rattle.std.proofs.lemmas.List.{length-take-le}
use Rattle.ulfm_model.specs.History.{without}
use Rattle.ulfm_model.specs.Records.{Held, Record}
use Rattle.ulfm_comm.proofs.rank.LocalState.make_room.Goals as goal

pub returns-clause-members : goal.returns-clause-members
returns-clause-members g c = λ x held.
    let same : c.held_comm-x.result.now ≡ x = cc (c.held_comm-x.ensures, held) in
    let group = c.deref.ensures.value ∙ ap (λ (y : Held). y.group) (c.x.view_is ∙ same) in
    let seen = c.deref-2.ensures.value ∙ ap (λ (own : Record). own.seen) c.self.view_is in
    c.in_ok-members.ensures ∙ ap₂ (λ ms s. without ms (take c.args.reach s)) group seen

pub slice_bounds-without-end : goal.slice_bounds-without-end
slice_bounds-without-end g c =
    let seen = c.deref-2.ensures.value ∙ ap (λ (own : Record). own.seen) c.self.view_is in
    sym (length-take-le c.args.reach c.deref-2.result.now (subst (λ xs. c.args.reach ≤ length xs) (sym seen) c.requires.within))
