use Rattle.std.proofs.Common.{◌≡◌, Some, None, false, is_some, sym, ap, ◌∙◌}
use Rattle.ulfm_model.specs.{Answers.{comm_of, refusal_of}, History.{has}, Records.{Held}}
use Rattle.ulfm_model.specs.Kept.{record_of}
use Rattle.ulfm_model.proofs.Places.{find_is, find_missing}
use Rattle.ulfm_judge.specs.Tests.{adds_on_test}
use Rattle.ulfm_judge.proofs.Deciding.{own_on}
use Rattle.ulfm_judge.proofs.own.may_own.Goals as goal

pub returns-in-Some : goal.returns-in-Some
returns-in-Some g c =
    let own = record_of c.args.limits c.args.own.now in
    let at = sym (rw (c.deref.ensures.value, c.comm_of.ensures) at c.place_of.ensures) ∙ c.in-Some.is in
    let found = find_is c.args.own.now.held.items (comm_of c.args.asked.now) c.in-Some.i c.index.result.now at in
    let calm : has c.args.look.now own.number ≡ false = cc (c.has_rank.ensures, c.if-has_rank.false) in
    let free : is_some (refusal_of own c.args.asked.now) ≡ false = cc (c.refusal_of.ensures, c.is_some.ensures, c.if-is_some.false) in
    let here = λ (x : Held). adds_on_test c.args.look.now own.number (Some x) c.args.asked.now c.args.event.now in
    c.call_adds.ensures ∙ (ap here c.index.ensures ∙ own_on c.args.look.now own c.args.asked.now c.args.event.now _ calm free found)

pub returns-in-None : goal.returns-in-None
returns-in-None g c =
    let own = record_of c.args.limits c.args.own.now in
    let at = sym (rw (c.deref.ensures.value, c.comm_of.ensures) at c.place_of.ensures) ∙ c.in-None.is in
    let calm : has c.args.look.now own.number ≡ false = cc (c.has_rank.ensures, c.if-has_rank.false) in
    let free : is_some (refusal_of own c.args.asked.now) ≡ false = cc (c.refusal_of.ensures, c.is_some.ensures, c.if-is_some.false) in
    own_on c.args.look.now own c.args.asked.now c.args.event.now None calm free (find_missing c.args.own.now.held.items (comm_of c.args.asked.now) at)
