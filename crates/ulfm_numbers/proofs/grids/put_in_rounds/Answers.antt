use Rattle.std.proofs.Common.{◌==◌, ℕ, if◌then◌else◌, arith}
use Rattle.ulfm_numbers.specs.Grids.{in_round, in_rounds}
use Rattle.ulfm_numbers.proofs.Placing.{ok_then, put_below}
use Rattle.ulfm_numbers.proofs.grids.put_in_rounds.Goals as goal

pub returns : goal.returns
returns g c =
    let puts = λ (r : ℕ) (o : g.row.C.Denot). if c.args.rank == r then c.args.cell else o in
    ok_then c.put_in_round.result (λ put. put_below (in_round {C = g.row.C.Denot} {A = g.row.A.Denot} c.args.empty) c.args.empty c.room.rounds.items (in_rounds c.args.empty c.args.rounds.now) c.from-place.result c.args.round c.index_mut-ranks.result.now
    c.put_in_round.new.ranks puts c.from-place.ensures (omega (arith, c.room.invariant.0, c.room-test.false)) c.index_mut-ranks.ensures.value c.room.invariant.1 put)
    c.put_in_round.ensures
