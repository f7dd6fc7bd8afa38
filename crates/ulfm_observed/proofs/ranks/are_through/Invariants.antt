use Rattle.std.proofs.Common.{◌≡◌, ◌<◌, ℕ, [], get_or, map}
use Rattle.ulfm_model.specs.declared.event.Caller.TheVariants.{Rank}
use Rattle.ulfm_observed.specs.declared.shows.Whose.TheVariants.{Of}
use Rattle.ulfm_observed.specs.{LogTexts.{heard_of}, Walked.{left_of}}
use Rattle.ulfm_observed.proofs.ranks.are_through.Given as goal

-- Nothing is left of the lines of the ranks so far.
abbrev pub invariant-loop-rank : goal.invariant-loop-rank
invariant-loop-rank g l = (r : ℕ) → r < l.rank → left_of (Of (Rank r)) (map heard_of l.lines) (get_or l.places r 0) ≡ []
