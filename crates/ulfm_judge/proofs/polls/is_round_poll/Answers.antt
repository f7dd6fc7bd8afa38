use Rattle.std.proofs.Common.{sym, ap, ◌∙◌}
use Rattle.ulfm_model.specs.Records.{Held}
use Rattle.ulfm_numbers.specs.Seen.{decision_in, is_decided_in}
use Rattle.ulfm_judge.specs.CallsAt.{call_at}
use Rattle.ulfm_judge.proofs.Deferring.{polled_made, polled_pending, said_pending}
use Rattle.ulfm_judge.proofs.polls.is_round_poll.Goals as goal

pub returns-then-says_pending : goal.returns-then-says_pending
returns-then-says_pending g c =
    let is = said_pending c.args.reply.now (sym c.says_pending.ensures ∙ c.if-says_pending.true) in
    c.is_pending.ensures ∙ sym (polled_pending g.P.Meld.meld g.P.Packed.pack (call_at c.args.view.now) c.args.x.now c.args.round c.args.shrinks c.args.reply.now is)

pub returns : goal.returns
returns g c =
    let call = call_at c.args.view.now in
    let decided = c.is_decided-decided.ensures ∙ ap (λ (y : Held). is_decided_in call.seen y.comm c.args.round) c.x.view_is in
    let made = c.in_ok-made.ensures ∙ ap (λ (y : Held). decision_in g.P.Meld.meld call.seen y.comm c.args.round) c.x.view_is in
    let not_said = sym c.says_pending.ensures ∙ c.if-says_pending.false in
    c.is_round_reply-2.ensures
    ∙ polled_made g.P.Meld.meld g.P.Packed.pack call c.args.x.now c.args.round c.args.shrinks c.is_decided-decided.result _ c.args.reply.now not_said decided made
