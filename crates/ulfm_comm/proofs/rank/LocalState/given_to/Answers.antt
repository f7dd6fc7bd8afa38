use Rattle.std.proofs.Common.{Some, ap, ap₂, filter, length, refl, sym, ◌∙◌}
use Rattle.ulfm_model.specs.History.{has}
use Rattle.ulfm_comm.proofs.Proposals.{given_is}
use Rattle.ulfm_comm.proofs.rank.LocalState.given_to.Goals as goal

pub returns : goal.returns
returns g c =
    let count = c.count_in-count.ensures ∙ ap₂ (λ w v. length (filter (has w) v)) c.deref.ensures.value c.failures.ensures in
    given_is c.args.self.now c.args.comm c.args.offer _ c.number.result _ (c.held_comm-x.ensures ∙ sym (ap Some c.x.view_is)) c.number.ensures refl count refl
