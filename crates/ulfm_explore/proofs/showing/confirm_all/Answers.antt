use Rattle.ulfm_explore.proofs.Outcomes.{one_outcome_more}
use Rattle.ulfm_explore.proofs.showing.confirm_all.Goals as goal

pub loop-number-preserved : goal.loop-number-preserved
loop-number-preserved g c =
    one_outcome_more
    c.args.program.now
    c.loop-number.shown.items
    c.push.new.self.items
    c.in_ok-one.one
    c.loop-number.invariant
    (c.in_ok-one.one.trace.items, c.in_ok-one.one.callers.items, c.in_ok-one.ensures)
    c.in-Ok.ensures.items
