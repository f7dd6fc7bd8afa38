use Rattle.std.proofs.Common.{map}
use Rattle.ulfm_observed.specs.{Explains.{AreCallersHeard, AreHeard}, LogTexts.{heard_of}, Stages.{shown_of}, Walked.{left_of}}
use Rattle.ulfm_observed.proofs.Showing.{shown_left}
use Rattle.ulfm_observed.proofs.shows.shows.Given as goal

-- What is left of both has only to agree.
abbrev pub invariant-loop-step : goal.invariant-loop-step
invariant-loop-step g l =
    AreHeard (left_of l.whose (map heard_of l.lines) l.at) (shown_left l.whose l.steps l.step-index)
    → AreCallersHeard (map heard_of l.lines) (map shown_of l.steps) l.whose
