use Rattle.std.proofs.Common.{ap, ◌∙◌}
use Rattle.ulfm_model.specs.Records.{Held}
use Rattle.ulfm_judge.specs.ReplyTests.{barrier_start_test}
use Rattle.ulfm_judge.specs.CallsAt.{call_at}
use Rattle.ulfm_judge.proofs.answers.is_arrival_reply.Goals as goal

pub returns : goal.returns
returns g c =
    let call = call_at c.args.view.now in
    let r = call.caller.number in
    let arrived = c.has_arrived_at-arrived.ensures ∙ ap (λ (y : Held). call.seen.arrived (y.comm, y.next_barrier, r)) c.x.view_is in
    c.is_barrier_start_reply.ensures ∙ ap (λ b. barrier_start_test b call.own r c.args.x.now c.args.reply.now) arrived
