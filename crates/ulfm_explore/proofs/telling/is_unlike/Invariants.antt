use Rattle.std.proofs.Common.{◌≡◌, ℕ, drop, map}
use Rattle.std.specs.Prelude.{slice_get}
use Rattle.ulfm_explore.specs.Tellings.{differ, some}
use Rattle.ulfm_explore.specs.Views.{row_of}
use Rattle.ulfm_explore.proofs.telling.is_unlike.Given as goal

abbrev pub invariant-loop-rank : goal.invariant-loop-rank
invariant-loop-rank g l = let is = λ (rank : ℕ). some (λ (other : ℕ). differ (slice_get (map row_of l.rows) rank) (slice_get (map row_of l.rows) other)) l.ranks in some is (drop l.rank-index l.ranks) ≡ some is l.ranks
