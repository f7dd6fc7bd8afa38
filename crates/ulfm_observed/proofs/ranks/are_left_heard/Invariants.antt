use Rattle.std.proofs.Common.{ℕ, get_or, map}
use Rattle.std.specs.Prelude.{filter}
use Rattle.ulfm_model.specs.declared.event.Caller.TheVariants.{Rank}
use Rattle.ulfm_observed.specs.declared.shows.Whose.TheVariants.{Of}
use Rattle.ulfm_observed.specs.{Explains.{AreHeard, is_shown_by}, LogTexts.{heard_of}, Stages.{shown_of}, Walked.{left_of}}
use Rattle.ulfm_observed.proofs.Showing.{shown_left}
use Rattle.ulfm_observed.proofs.ranks.are_left_heard.Given as goal

-- Of each rank what is left of both has only to agree.
abbrev pub invariant-loop-step : goal.invariant-loop-step
invariant-loop-step g l =
    (r : ℕ) → AreHeard (left_of (Of (Rank r)) (map heard_of l.lines) (get_or l.places r 0)) (shown_left (Of (Rank r)) l.steps l.step-index)
    → AreHeard (left_of (Of (Rank r)) (map heard_of l.lines) (get_or l.fn.places r 0)) (filter (is_shown_by (Of (Rank r))) (map shown_of l.steps))
