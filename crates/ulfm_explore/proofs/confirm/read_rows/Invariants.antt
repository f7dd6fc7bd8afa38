use Rattle.std.proofs.Common.{◌≡◌, map, Some}
use Rattle.ulfm_explore.specs.Readings.{ranks_to, row_in}
use Rattle.ulfm_explore.specs.Views.{row_of}
use Rattle.ulfm_explore.proofs.confirm.read_rows.Given as goal

abbrev pub invariant-loop-rank : goal.invariant-loop-rank
invariant-loop-rank g l = map Some (map row_of l.rows.items) ≡ map (row_in l.program l.callers l.trace l.at_rest) (ranks_to l.rank)
