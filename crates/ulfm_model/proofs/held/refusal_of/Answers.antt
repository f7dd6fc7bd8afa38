use Rattle.std.proofs.Common.{Some, sym, ap, ◌∙◌}
use Rattle.ulfm_model.specs.{Answers.{first_refusal, refusal_on}, Records.{Held}}
use Rattle.ulfm_model.specs.Terms.{comm_of}
use Rattle.ulfm_model.specs.Kept.{record_of}
use Rattle.ulfm_model.proofs.Places.{find_is, find_missing}
use Rattle.ulfm_model.proofs.Testing.{tests_are}
use Rattle.ulfm_model.proofs.held.refusal_of.Goals as goal

pub returns-in-Some : goal.returns-in-Some
returns-in-Some g c =
    let own = record_of c.args.limits c.args.own.now in
    let asked = c.args.asked.now in
    let at = sym (rw (c.deref.ensures.value, c.comm_of.ensures) at c.place_of.ensures) ∙ c.in-Some.is in
    let found = find_is c.args.own.now.held.items (comm_of asked) c.in-Some.i c.index.result.now at in
    rw c.deref-in-Some.ensures.value at c.refusal_on.ensures
    ∙ (ap first_refusal (tests_are own c.index.result.now asked)
    ∙ sym (ap (λ o. refusal_on own o asked) found ∙ ap (λ (x : Held). refusal_on own (Some x) asked) (sym c.index.ensures)))

pub returns-in-None : goal.returns-in-None
returns-in-None g c =
    let own = record_of c.args.limits c.args.own.now in
    let at = sym (rw (c.deref.ensures.value, c.comm_of.ensures) at c.place_of.ensures) ∙ c.in-None.is in
    sym (ap (λ o. refusal_on own o c.args.asked.now) (find_missing c.args.own.now.held.items (comm_of c.args.asked.now) at))
