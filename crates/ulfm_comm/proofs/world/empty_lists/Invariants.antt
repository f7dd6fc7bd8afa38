use Rattle.std.proofs.Common.{◌≡◌, length}
use Rattle.std.specs.List.{AllByRecursion}
use Rattle.ulfm_comm.specs.Ranks.{IsEmptyList}
use Rattle.ulfm_comm.proofs.world.empty_lists.Given as goal

abbrev pub invariant-room : goal.invariant-room
invariant-room g l = (length l.lists.items ≡ l._rank) × AllByRecursion (IsEmptyList l.ranks) l.lists.items
