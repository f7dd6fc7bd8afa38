use Rattle.std.proofs.Common.{◌≡◌, ℕ, false, drop, get_or, map}
use Rattle.std.specs.Prelude.{◌||◌}
use Rattle.ulfm_observed.specs.{Explains.{is_lost}, LogTexts.{heard_of}}
use Rattle.ulfm_observed.proofs.wills.lost_ranks.Given as goal

-- What is noted so far, and what the other lines tell, is what all tell.
abbrev pub invariant-loop-line : goal.invariant-loop-line
invariant-loop-line g l =
    (r : ℕ) → (get_or l.lost.items r false || is_lost r (map heard_of (drop l.line-index l.lines))) ≡ is_lost r (map heard_of l.lines)
