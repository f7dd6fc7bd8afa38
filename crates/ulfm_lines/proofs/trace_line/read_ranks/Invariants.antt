use Rattle.ulfm_script.specs.Words.{rest_at}
use Rattle.ulfm_lines.proofs.RankLemmas.{IsListed, left_size}
use Rattle.ulfm_lines.proofs.trace_line.read_ranks.Given as goal

abbrev pub invariant-ranks : goal.invariant-ranks
invariant-ranks g l = IsListed (rest_at l.fn.ranks) l.group.items (rest_at l.left)

abbrev pub decreases-ranks : goal.decreases-ranks
decreases-ranks g l = left_size (rest_at l.left)
