use Rattle.std.proofs.Common.{◌≡◌, ◌++◌, map}
use Rattle.ulfm_run.specs.Table.{idle_seat}
use Rattle.ulfm_run.proofs.table.seats_of.Given as goal

abbrev pub invariant-loop-own : goal.invariant-loop-own
invariant-loop-own g l = l.seats.items ++ map idle_seat l.own-iterator.rest.items ≡ map idle_seat l.fn.ranks.items
