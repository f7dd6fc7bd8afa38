use Rattle.std.proofs.Common.{List, ℕ}
use Rattle.ulfm_draw.specs.Columns.{Gives}
use Rattle.ulfm_draw.proofs.cells.Table.put_names.Given as goal

abbrev pub invariant-digits : goal.invariant-digits
invariant-digits g l = (given : List ℕ) → Gives l.fn.sheet.items given → Gives l.sheet.items given
