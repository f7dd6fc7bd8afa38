use Rattle.std.proofs.Common.{sym}
use Rattle.std.proofs.lemmas.Bool.{ltb-true, ltb-false}
use Rattle.ulfm_judge.proofs.Seating.{stands_ended, stands_nowhere, stands_there}
use Rattle.ulfm_judge.proofs.calls.place_by.Goals as goal

pub returns-then-u : goal.returns-then-u
returns-then-u g c =
    let within = ltb-true _ _ (sym c.in-Some.ensures.lookup.0) in
    record { at = stands_there c.args.calls.now c.args.by c.seat_of-seat.result c.in-Some.u.now c.seat_of-seat.ensures.is within c.in-Some.ensures.lookup.1 c.if-u.true; within = within }

pub returns-else-u : goal.returns-else-u
returns-else-u g c =
    let within = ltb-true _ _ (sym c.in-Some.ensures.lookup.0) in
    record { at = stands_ended c.args.calls.now c.args.by c.seat_of-seat.result c.in-Some.u.now c.seat_of-seat.ensures.is within c.in-Some.ensures.lookup.1 c.if-u.false; within = tt }

pub returns-in-None : goal.returns-in-None
returns-in-None g c = record {
  at = stands_nowhere c.args.calls.now c.args.by c.seat_of-seat.result c.seat_of-seat.ensures.is (ltb-false _ _ (sym c.in-None.ensures.lookup.0));
  within = tt;
}
