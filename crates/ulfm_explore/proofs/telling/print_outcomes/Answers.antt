use Rattle.ulfm_explore.specs.Views.{told_of}
use Rattle.ulfm_explore.proofs.Walks.{map_next, outcomes_on}
use Rattle.ulfm_explore.proofs.telling.print_outcomes.Goals as goal

pub loop-outcome-preserved : goal.loop-outcome-preserved
loop-outcome-preserved g c =
    let next = map_next told_of c.args.shown.now c.loop-outcome.outcome-index c.outcome-item.result c.loop-outcome-test.true c.outcome-item.is in
    rw (c.saturating_add-number.ensures, c.in_ok-print_outcome.ensures, c.deref.ensures.value)
    (outcomes_on c.loop-outcome.text.items c.loop-outcome.number _ _ _ _ next c.loop-outcome.invariant)
