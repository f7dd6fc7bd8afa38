use Rattle.std.proofs.Common.{◌≡◌, ℕ, drop, map}
use Rattle.std.specs.Prelude.{slice_get}
use Rattle.ulfm_explore.specs.Tellings.{is_stuck_one, some}
use Rattle.ulfm_explore.specs.Views.{row_of}
use Rattle.ulfm_explore.proofs.telling.is_stuck.Given as goal

abbrev pub invariant-loop-rank : goal.invariant-loop-rank
invariant-loop-rank g l = let is = λ (rank : ℕ). is_stuck_one (slice_get (map row_of l.rows) rank) in some is (drop l.rank-index l.ranks) ≡ some is l.ranks
