use Rattle.std.proofs.Common.{◌≡◌, filter, length, Option, ap, ap₂, ◌∙◌}
use Rattle.ulfm_model.specs.declared.contribution.Slot.{Slot}
use Rattle.ulfm_model.specs.{History.{has}, Records.{Held}}
use Rattle.ulfm_judge.specs.ReplyTests.{start_test}
use Rattle.ulfm_judge.specs.CallsAt.{call_at}
use Rattle.ulfm_judge.proofs.answers.is_offer_reply.Goals as goal

pub returns : goal.returns
returns g c =
    let x = c.args.x.now in
    let call = call_at c.args.view.now in
    let r = call.caller.number in
    let stood = c.slot_at-stood.ensures ∙ ap (λ (y : Held). call.seen.slots (y.comm, y.next_agreement, r)) c.x.view_is in
    let group : c.deref.result.now ≡ x.group = c.deref.ensures.value ∙ ap (λ (y : Held). y.group) c.x.view_is in
    let known : c.count_found-known.result ≡ length (filter (has x.group) call.look) =
    c.count_found-known.ensures ∙ ap (λ group. length (filter (has group) call.look)) group in
    c.is_start_reply.ensures
    ∙ ap₂ (λ (s : Option (Slot g.row.P.Denot)) n. start_test g.P.Packed.pack call.own s r x (record { offer = c.args.offer; known = n; acked = x.acked }) c.args.reply.now) stood known
