use Rattle.std.proofs.Common.{Some, sym, ap, append-nil, ◌∙◌, arith}
use Rattle.ulfm_model.specs.{Records.{Held}}
use Rattle.ulfm_model.specs.Terms.{comm_of}
use Rattle.ulfm_model.proofs.Places.{find_is, find_missing, is_of, position_below}
use Rattle.ulfm_object.proofs.outcome.used_outcome.Goals as goal

pub index-requires : goal.index-requires
index-requires g c =
    let at = sym (rw (c.deref.ensures.value, c.comm_of.ensures) at c.place_of.ensures) ∙ c.in-Some-place_of.is in
    omega (arith, position_below (is_of (comm_of c.args.asked.now.call.now)) c.args.asked.now.own.now.held.items c.in-Some-place_of.i at, c.args.asked.now.own.now.held.ok)

pub returns-in-Some-place_of : goal.returns-in-Some-place_of
returns-in-Some-place_of g c =
    let none = sym c.refusal_of.ensures ∙ c.in_default.is in
    let at = sym (rw (c.deref.ensures.value, c.comm_of.ensures) at c.place_of.ensures) ∙ c.in-Some-place_of.is in
    let held = find_is c.args.asked.now.own.now.held.items (comm_of c.args.asked.now.call.now) c.in-Some-place_of.i c.index.result.now at
    ∙ ap (λ (x : Held). Some x) (sym c.index.ensures) in
    record {
      after = rw (none, held) c.held_outcome.ensures.after;
      reply = rw (none, held) c.held_outcome.ensures.reply;
    }

pub returns-in-None : goal.returns-in-None
returns-in-None g c =
    let none = sym c.refusal_of.ensures ∙ c.in_default.is in
    let at = sym (rw (c.deref.ensures.value, c.comm_of.ensures) at c.place_of.ensures) ∙ c.in-None.is in
    let held = find_missing c.args.asked.now.own.now.held.items (comm_of c.args.asked.now.call.now) at in
    record {
      after = rw (none, held) (rw append-nil c.refused-in-None.ensures.after);
      reply = rw (none, held) c.refused-in-None.ensures.reply;
    }
