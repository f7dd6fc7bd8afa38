use Rattle.std.proofs.Common.{◌≡◌, ◌≤◌, ℕ, map}
use Rattle.ulfm_model.specs.declared.event.Caller.TheVariants.{Rank}
use Rattle.ulfm_observed.specs.declared.shows.Whose.TheVariants.{Of}
use Rattle.ulfm_observed.specs.{LogTexts.{heard_of}, Walked.{left_of, of_callers}}
use Rattle.ulfm_observed.proofs.ranks.ranks_in.Given as goal

-- The lines so far are of ranks below the bound.
abbrev pub invariant-loop-line : goal.invariant-loop-line
invariant-loop-line g l =
    (r : ℕ) → l.bound ≤ r → of_callers (Of (Rank r)) (map heard_of l.lines) ≡ left_of (Of (Rank r)) (map heard_of l.lines) l.line-index
