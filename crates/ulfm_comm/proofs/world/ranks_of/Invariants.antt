use Rattle.std.proofs.Common.{◌≡◌, ◌+◌, length, map}
use Rattle.std.specs.List.{AllByRecursion}
use Rattle.ulfm_model.specs.History.{first_ranks}
use Rattle.ulfm_comm.specs.Counts.{new_rank}
use Rattle.ulfm_comm.specs.Ranks.{IsEmptyList}
use Rattle.ulfm_comm.proofs.world.ranks_of.Given as goal

abbrev pub invariant-loop-seen : goal.invariant-loop-seen
invariant-loop-seen g l =
    (l.ranks.items ≡ map (new_rank l.limits) (first_ranks (length l.ranks.items)))
    × (length l.ranks.items + length l.seen-iterator.rest.items ≡ l.limits.ranks)
    × AllByRecursion (IsEmptyList l.limits.ranks) l.seen-iterator.rest.items
