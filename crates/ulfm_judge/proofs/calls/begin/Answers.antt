use Rattle.std.proofs.Common.{ℕ, List, None, arith, refl, sym, ap₂, ◌∙◌}
use Rattle.ulfm_model.specs.declared.event.Event.{Event}
use Rattle.ulfm_judge.proofs.Taking.{begins, busy}
use Rattle.ulfm_judge.proofs.calls.begin.Goals as goal

pub returns-in-Some-clause-taken : goal.returns-in-Some-clause-taken
returns-in-Some-clause-taken g c = λ limits h records us group count are.
    let at = sym (rw (c.deref.ensures.value, c.caller_of-by.ensures) at c.place_by.ensures.at) ∙ c.in-Some.is in
    busy g.P.Meld.meld limits h records c.args.calls.now.items us are group c.args.asked c.in-Some.field-0 at

pub returns-clause-taken : goal.returns-clause-taken
returns-clause-taken g c = λ limits h records us group count are.
    let at = sym (rw (c.deref.ensures.value, c.caller_of-by.ensures) at c.place_by.ensures.at) ∙ c.in_default.is in
    let seat = rw c.caller_of-by.ensures at c.seat_of-seat.ensures.is in
    begins g.P.Meld.meld limits h records c.args.calls.now.items us are group c.args.asked c.make_room.new.calls.items c.seat_of-seat.result _ at (c.make_room.ensures.same us are) seat
    (omega (arith, c.in_ok-make_room.ensures.room)) refl (ap₂ (λ (n : ℕ) (own : List (Event g.row.P.Denot)). record { asked = c.args.asked; begun = n; look = None; own = own }) count c.clear.ensures.items)
