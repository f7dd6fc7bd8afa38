use Rattle.std.proofs.Common.{◌≡◌, ◌∙◌, Some, ap, sym}
use Rattle.std.specs.Prelude.{IfOk}
use Rattle.ulfm_model.specs.Computed.{added_by_poll}
use Rattle.ulfm_model.specs.Records.{Held}
use Rattle.ulfm_model.specs.declared.call.Request.TheVariants.{Shrink}
use Rattle.ulfm_object.proofs.Holding.{same_round}
use Rattle.ulfm_object.proofs.adds.added_by_poll.Goals as goal

pub returns-in-Shrink : goal.returns-in-Shrink
returns-in-Shrink g c =
    let is : c.args.x.now.request ≡ Some (Shrink c.in-Shrink.round) = ap (λ (x : Held). x.request) (sym c.x.view_is) ∙ (c.in-Some.is ∙ ap Some c.in-Shrink.is) in
    let round = c.round-in-Shrink.ensures in
    rw is
    (same_round (λ limits h d k. IfOk c.added_by_shrink.result (λ events. events.items ≡ added_by_poll g.P.Meld.meld limits h c.args.asked.now.own.now.number d (Some (Shrink k))))
    round.limits round.history round.comm round.number c.added_by_shrink.ensures)
