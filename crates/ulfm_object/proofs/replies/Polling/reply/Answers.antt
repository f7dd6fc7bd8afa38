use Rattle.std.proofs.Common.{◌≡◌, ◌∙◌, Some, ap, sym}
use Rattle.std.specs.Prelude.{IfOk, if◌then◌else◌}
use Rattle.ulfm_model.specs.Computed.{agree_reply, shrink_reply}
use Rattle.ulfm_model.specs.History.{decision, is_decided}
use Rattle.ulfm_model.specs.Records.{Held}
use Rattle.ulfm_model.specs.declared.call.Request.TheVariants.{Agree, Barrier, Shrink}
use Rattle.ulfm_model.specs.declared.reply.Reply.TheVariants.{Pending}
use Rattle.ulfm_object.proofs.Holding.{same_round}
use Rattle.ulfm_object.proofs.replies.Polling.reply.Goals as goal

pub returns-in-Barrier : goal.returns-in-Barrier
returns-in-Barrier g c = λ events.
    let is : c.args.self.now.x.now.request ≡ Some (Barrier c.in-Barrier.round) = ap (λ (x : Held). x.request) (sym c.x.view_is) ∙ (c.in-Some.is ∙ ap Some c.in-Barrier.is) in
    rw is (c.barrier_reply.ensures events)

pub returns-in-Agree : goal.returns-in-Agree
returns-in-Agree g c = λ events.
    let meld = g.P.Meld.meld in
    let is : c.args.self.now.x.now.request ≡ Some (Agree c.in-Agree.round) = ap (λ (x : Held). x.request) (sym c.x.view_is) ∙ (c.in-Some.is ∙ ap Some c.in-Agree.is) in
    let round = c.round.ensures in
    rw is
    (same_round (λ limits h d k. IfOk c.agree_poll.result (λ reply. reply ≡ (if is_decided limits.ranks h d k then agree_reply (decision meld limits.ranks h d k) (decision meld limits.ranks h d k).body else Pending)))
    round.limits round.history round.comm round.number c.agree_poll.ensures)

pub returns-in-Shrink : goal.returns-in-Shrink
returns-in-Shrink g c = λ events.
    let meld = g.P.Meld.meld in
    let rank = c.args.self.now.asked.now.own.now.number in
    let is : c.args.self.now.x.now.request ≡ Some (Shrink c.in-Shrink.round) = ap (λ (x : Held). x.request) (sym c.x.view_is) ∙ (c.in-Some.is ∙ ap Some c.in-Shrink.is) in
    let round = c.round-in-Shrink.ensures in
    rw is
    (same_round (λ limits h d k. IfOk c.shrink_poll.result (λ reply. reply ≡ (if is_decided limits.ranks h d k then shrink_reply limits.ranks h rank d k (decision meld limits.ranks h d k) (decision meld limits.ranks h d k).body else Pending)))
    round.limits round.history round.comm round.number c.shrink_poll.ensures)
