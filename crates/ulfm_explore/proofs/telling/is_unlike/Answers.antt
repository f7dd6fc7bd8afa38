use Rattle.std.proofs.Common.{◌≡◌, ◌∙◌, ℕ, true, false, map, get_or, sym}
use Rattle.std.specs.Prelude.{slice_get}
use Rattle.ulfm_explore.specs.Tellings.{differ, some}
use Rattle.ulfm_explore.specs.Views.{row_of}
use Rattle.ulfm_explore.proofs.Walks.{some_here, some_on}
use Rattle.ulfm_explore.proofs.telling.is_unlike.Goals as goal

pub returns-then-differs_from : goal.returns-then-differs_from
returns-then-differs_from g c =
    let is = λ (rank : ℕ). some (λ (other : ℕ). differ (slice_get (map row_of c.args.rows.now) rank) (slice_get (map row_of c.args.rows.now) other)) c.args.ranks.now in
    let holds : is (get_or c.args.ranks.now c.loop-rank.rank-index 0) ≡ true = sym c.differs_from.ensures ∙ c.if-differs_from.true in
    some_here is c.args.ranks.now c.loop-rank.rank-index _ c.loop-rank-test.true holds c.loop-rank.invariant

pub loop-rank-preserved : goal.loop-rank-preserved
loop-rank-preserved g c =
    let is = λ (rank : ℕ). some (λ (other : ℕ). differ (slice_get (map row_of c.args.rows.now) rank) (slice_get (map row_of c.args.rows.now) other)) c.args.ranks.now in
    let fails : is (get_or c.args.ranks.now c.loop-rank.rank-index 0) ≡ false = sym c.differs_from.ensures ∙ c.if-differs_from.false in
    some_on is c.args.ranks.now c.loop-rank.rank-index _ c.loop-rank-test.true fails c.loop-rank.invariant
