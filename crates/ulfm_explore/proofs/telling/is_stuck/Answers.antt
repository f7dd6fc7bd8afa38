use Rattle.std.proofs.Common.{◌≡◌, ◌∙◌, ℕ, true, false, map, get_or, sym}
use Rattle.std.specs.Prelude.{slice_get}
use Rattle.ulfm_explore.specs.Tellings.{is_stuck_one}
use Rattle.ulfm_explore.specs.Views.{row_of}
use Rattle.ulfm_explore.proofs.Walks.{some_here, some_on}
use Rattle.ulfm_explore.proofs.telling.is_stuck.Goals as goal

pub returns-then-is_stuck_one : goal.returns-then-is_stuck_one
returns-then-is_stuck_one g c =
    let is = λ (rank : ℕ). is_stuck_one (slice_get (map row_of c.args.rows.now) rank) in
    let holds : is (get_or c.args.ranks.now c.loop-rank.rank-index 0) ≡ true = sym (rw (c.row_at.ensures) at c.is_stuck_one.ensures) ∙ c.if-is_stuck_one.true in
    some_here is c.args.ranks.now c.loop-rank.rank-index _ c.loop-rank-test.true holds c.loop-rank.invariant

pub loop-rank-preserved : goal.loop-rank-preserved
loop-rank-preserved g c =
    let is = λ (rank : ℕ). is_stuck_one (slice_get (map row_of c.args.rows.now) rank) in
    let fails : is (get_or c.args.ranks.now c.loop-rank.rank-index 0) ≡ false = sym (rw (c.row_at.ensures) at c.is_stuck_one.ensures) ∙ c.if-is_stuck_one.false in
    some_on is c.args.ranks.now c.loop-rank.rank-index _ c.loop-rank-test.true fails c.loop-rank.invariant
