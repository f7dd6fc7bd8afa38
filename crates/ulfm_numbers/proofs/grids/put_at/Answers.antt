use Rattle.std.proofs.Common.{◌==◌, ◌∙◌, ℕ, if◌then◌else◌, arith}
use Rattle.ulfm_numbers.specs.Grids.{cell_at, in_rounds}
use Rattle.ulfm_numbers.proofs.Placing.{by_all, ok_then, put_below}
use Rattle.ulfm_numbers.proofs.grids.put_at.Goals as goal

pub returns : goal.returns
returns g c =
    let place = c.args.place in
    let old = c.args.grid.now in
    let puts = λ (q : ℕ × ℕ) (o : g.row.C.Denot). if place.1 == q.0 then (if place.2 == q.1 then c.args.cell else o) else o in
    ok_then c.put_in_rounds.result (λ put. λ q.
    put_below (λ rounds (q : ℕ × ℕ). in_rounds {C = g.row.C.Denot} {A = g.row.A.Denot} c.args.empty rounds (q.0) (q.1)) c.args.empty c.room.grid.comms.items (λ j q. cell_at c.args.empty old (j, q.0, q.1)) c.from-place.result (place.0)
    c.index_mut-rounds.result.now c.put_in_rounds.new.rounds puts c.from-place.ensures (omega (arith, c.room.invariant.0, c.room-test.false)) c.index_mut-rounds.ensures.value (λ j q. c.room.invariant.1 (j, q.0, q.1)) (λ q. put (q.0) (q.1))
    (q.0) (q.1, q.2)
    ∙ by_all (place.0 == q.0) (place.1 == q.1) (place.2 == q.2) c.args.cell (cell_at c.args.empty old q))
    c.put_in_rounds.ensures
