use Rattle.std.proofs.Common.{◌≡◌, ℕ, drop, map}
use Rattle.std.specs.Prelude.{slice_get}
use Rattle.ulfm_explore.specs.Tellings.{differ, some}
use Rattle.ulfm_explore.specs.Views.{row_of}
use Rattle.ulfm_explore.proofs.telling.differs_from.Given as goal

abbrev pub invariant-loop-other : goal.invariant-loop-other
invariant-loop-other g l = let is = λ (other : ℕ). differ (slice_get (map row_of l.rows) l.rank) (slice_get (map row_of l.rows) other) in some is (drop l.other-index l.ranks) ≡ some is l.ranks
