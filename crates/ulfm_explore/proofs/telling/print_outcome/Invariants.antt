use Rattle.std.proofs.Common.{◌≡◌, drop, map}
use Rattle.ulfm_explore.specs.Tellings.{outcome_to, rows_to}
use Rattle.ulfm_explore.specs.Views.{row_of}
use Rattle.ulfm_explore.proofs.telling.print_outcome.Given as goal

abbrev pub invariant-loop-row : goal.invariant-loop-row
invariant-loop-row g l = rows_to l.text.items l.rank (drop l.row-index (map row_of l.rows)) ≡ outcome_to l.fn.text.items l.number (map row_of l.rows)
