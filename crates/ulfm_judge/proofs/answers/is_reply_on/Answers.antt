use Rattle.std.proofs.Common.{◌≡◌, List, Option, subst, ap, ◌∙◌}
use Rattle.std.specs.Prelude.{IfOk}
use Rattle.ulfm_laws.specs.declared.summary.CtxMask.{CtxMask}
use Rattle.ulfm_model.specs.declared.{call.Request.{Request}, contribution.Offer.{Offer}}
use Rattle.ulfm_model.specs.Records.{Held, free_ids}
use Rattle.ulfm_judge.specs.ReplyTests.{offer_test, polled_test}
use Rattle.ulfm_judge.specs.CallsAt.{call_at}
use Rattle.ulfm_judge.proofs.answers.is_reply_on.Goals as goal

pub returns-in-GetFailed : goal.returns-in-GetFailed
returns-in-GetFailed g c = rw c.in-GetFailed.is c.is_failed_reply.ensures

pub returns-in-Ack : goal.returns-in-Ack
returns-in-Ack g c = rw c.in-Ack.is c.is_ack_reply.ensures

pub returns-in-FailureAck : goal.returns-in-FailureAck
returns-in-FailureAck g c = rw c.in-FailureAck.is c.is_ack_reply-in-FailureAck.ensures

pub returns-in-FailureGetAcked : goal.returns-in-FailureGetAcked
returns-in-FailureGetAcked g c = rw c.in-FailureGetAcked.is c.is_acked_group_reply.ensures

pub returns-in-Agree : goal.returns-in-Agree
returns-in-Agree g c = rw c.in-Agree.is c.is_offer_reply.ensures

pub returns-in-Shrink : goal.returns-in-Shrink
returns-in-Shrink g c =
    let free = c.free_ids-free.ensures ∙ ap (λ (held : List Held). free_ids held) c.deref.ensures.value in
    rw c.in-Shrink.is
    (c.is_offer_reply-in-Shrink.ensures
    ∙ ap (λ (ids : CtxMask). offer_test g.P.Packed.pack (call_at c.args.view.now) c.args.x.now (Offer.Ctx ids) c.args.reply.now) free)

pub returns-in-Barrier : goal.returns-in-Barrier
returns-in-Barrier g c = rw c.in-Barrier.is c.is_arrival_reply.ensures

pub returns-in-Poll : goal.returns-in-Poll
returns-in-Poll g c =
    let asked = λ (request : Option Request). polled_test g.P.Meld.meld g.P.Packed.pack (call_at c.args.view.now) c.args.x.now request c.args.reply.now in
    rw c.in-Poll.is (subst (λ t. IfOk c.is_poll_reply.result (λ b. b ≡ t)) (ap (λ (y : Held). asked y.request) c.x.view_is) c.is_poll_reply.ensures)
