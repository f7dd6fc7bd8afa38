use Rattle.std.proofs.Common.{◌≡◌, ◌∙◌, ℕ, true, false, map, get_or, sym}
use Rattle.std.specs.Prelude.{slice_get}
use Rattle.ulfm_explore.specs.Tellings.{differ}
use Rattle.ulfm_explore.specs.Views.{row_of}
use Rattle.ulfm_explore.proofs.Walks.{some_here, some_on}
use Rattle.ulfm_explore.proofs.telling.differs_from.Goals as goal

pub returns-then-differ : goal.returns-then-differ
returns-then-differ g c =
    let is = λ (other : ℕ). differ (slice_get (map row_of c.args.rows.now) c.args.rank) (slice_get (map row_of c.args.rows.now) other) in
    let holds : is (get_or c.args.ranks.now c.loop-other.other-index 0) ≡ true = sym (rw (c.row_at.ensures, c.row_at-in-loop-other.ensures) at c.differ.ensures) ∙ c.if-differ.true in
    some_here is c.args.ranks.now c.loop-other.other-index _ c.loop-other-test.true holds c.loop-other.invariant

pub loop-other-preserved : goal.loop-other-preserved
loop-other-preserved g c =
    let is = λ (other : ℕ). differ (slice_get (map row_of c.args.rows.now) c.args.rank) (slice_get (map row_of c.args.rows.now) other) in
    let fails : is (get_or c.args.ranks.now c.loop-other.other-index 0) ≡ false = sym (rw (c.row_at.ensures, c.row_at-in-loop-other.ensures) at c.differ.ensures) ∙ c.if-differ.false in
    some_on is c.args.ranks.now c.loop-other.other-index _ c.loop-other-test.true fails c.loop-other.invariant
