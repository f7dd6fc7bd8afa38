use Rattle.std.proofs.Common.{arith, get_or, map}
use Rattle.ulfm_model.specs.declared.event.Caller.TheVariants.{Rank}
use Rattle.ulfm_observed.specs.declared.shows.Whose.TheVariants.{Of}
use Rattle.ulfm_observed.specs.LogTexts.{heard_of}
use Rattle.ulfm_observed.proofs.{Ranked.{nothing_left}, Showing.{both_end, steps_on}}
use Rattle.ulfm_observed.proofs.ranks.are_left_heard.Goals as goal

pub loop-step-preserved : goal.loop-step-preserved
loop-step-preserved g c = λ r rest.
    c.loop-step.invariant r
    (steps_on (Of (Rank r)) (map heard_of c.args.lines.now) c.args.steps.now c.loop-step.step-index (get_or c.loop-step.places r 0)
    (get_or c.rank_goes_on.new.places r 0) c.step-item.result (omega (arith, c.loop-step-test.true)) c.step-item.is
    (c.rank_goes_on.ensures c.if-not-rank_goes_on.false r) rest)

pub returns : goal.returns
returns g c = λ through r.
    let log = map heard_of c.args.lines.now in
    let places = c.loop-step.places in
    c.loop-step.invariant r
    (both_end (Of (Rank r)) log c.args.steps.now (get_or places r 0) c.loop-step.step-index (omega (arith, c.loop-step-test.false))
    (nothing_left log places c.in-Some.bound c.in-Some.ensures (c.are_through.ensures through) r))
