use Rattle.std.proofs.Common.{◌≡◌, drop, map}
use Rattle.ulfm_explore.specs.Tellings.{outcomes_to}
use Rattle.ulfm_explore.specs.Views.{told_of}
use Rattle.ulfm_explore.proofs.telling.print_outcomes.Given as goal

abbrev pub invariant-loop-outcome : goal.invariant-loop-outcome
invariant-loop-outcome g l = outcomes_to l.text.items l.number (drop l.outcome-index (map told_of l.shown)) ≡ outcomes_to l.fn.text.items 1 (map told_of l.shown)
