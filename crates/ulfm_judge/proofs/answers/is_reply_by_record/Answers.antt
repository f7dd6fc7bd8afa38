use Rattle.std.proofs.Common.{◌≡◌, Option, None, arith, sym, subst, ap, ap₂, ◌∙◌}
use Rattle.std.specs.Prelude.{IfOk}
use Rattle.ulfm_model.specs.declared.refusal.Refusal.{Refusal}
use Rattle.ulfm_model.specs.{Answers.{comm_of, refusal_of}, Records.{Held}}
use Rattle.ulfm_model.proofs.Places.{find_is, find_missing, is_of, position_below}
use Rattle.ulfm_judge.specs.ReplyTests.{by_record_test, replied_test}
use Rattle.ulfm_judge.specs.CallsAt.{call_at}
use Rattle.ulfm_judge.proofs.answers.is_reply_by_record.Goals as goal

pub returns-in_default-place_of : goal.returns-in_default-place_of
returns-in_default-place_of g c =
    let call = call_at c.args.view.now in
    let asked = c.args.asked.now in
    let at = sym (rw (c.deref.ensures.value, c.comm_of.ensures) at c.place_of.ensures) ∙ c.in_default-place_of.is in
    let test = λ (held : Option Held) (o : Option Refusal). by_record_test g.P.Meld.meld g.P.Packed.pack call held asked c.args.reply.now o in
    let free : refusal_of call.caller asked ≡ None = sym c.refusal_of.ensures ∙ c.in_default.is in
    sym (ap₂ test (find_missing c.args.view.now.caller.now.held.items (comm_of asked) at) free)

pub index-x-requires : goal.index-x-requires
index-x-requires g c =
    let at = sym (rw (c.deref.ensures.value, c.comm_of.ensures) at c.place_of.ensures) ∙ c.in-Some-place_of.is in
    let within = position_below (is_of (comm_of c.args.asked.now)) c.args.view.now.caller.now.held.items c.in-Some-place_of.i at in
    omega (arith, within, c.args.view.now.caller.now.held.ok)

pub returns : goal.returns
returns g c =
    let call = call_at c.args.view.now in
    let asked = c.args.asked.now in
    let at = sym (rw (c.deref.ensures.value, c.comm_of.ensures) at c.place_of.ensures) ∙ c.in-Some-place_of.is in
    let test = λ (held : Option Held) (o : Option Refusal). by_record_test g.P.Meld.meld g.P.Packed.pack call held asked c.args.reply.now o in
    let on = λ (x : Held). replied_test g.P.Meld.meld g.P.Packed.pack call x asked c.args.reply.now in
    let free : refusal_of call.caller asked ≡ None = sym c.refusal_of.ensures ∙ c.in_default.is in
    let found = find_is c.args.view.now.caller.now.held.items (comm_of asked) c.in-Some-place_of.i c.index-x.result.now at in
    subst (λ t. IfOk c.is_reply_on.result (λ b. b ≡ t)) (ap on c.index-x.ensures ∙ sym (ap₂ test found free)) c.is_reply_on.ensures
