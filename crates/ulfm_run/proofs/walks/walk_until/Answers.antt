use Rattle.std.proofs.Common.{[], ◌∷◌, ◌++◌, ◌∙◌, arith, inl, length-append, refl, sym}
use Rattle.ulfm_run.specs.Seats.{next_in}
use Rattle.ulfm_run.proofs.Walking.{counts_on, goes_nearer, still_other, still_within, walks_none, walks_then}
use Rattle.ulfm_run.proofs.walks.walk_until.Goals as goal

pub steps-init : goal.steps-init
steps-init g c = (
  c.requires.of,
  [],
  inl (refl, omega arith),
  λ most is. omega arith,
  λ n is. tt,
  omega arith,
  walks_none c.args.world.now c.args.pass.now c.args.seat.now c.args.teller.now.text.items,
)

pub walk_one-requires-clause-sits : goal.walk_one-requires-clause-sits
walk_one-requires-clause-sits g c = let w = c.steps.invariant.6 in (_, (w.goes c.requires.sits.0 c.requires.sits.1).sits)

pub steps-preserved : goal.steps-preserved
steps-preserved g c =
    let was = c.steps.invariant in
    let next = next_in c.steps.seat.call in (
      c.walk_one.ensures.of,
      was.1 ++ next ∷ [],
      counts_on was.1 next c.steps.made c.count_up-made.result was.2 c.count_up-made.ensures,
      still_within c.args.reach was.1 next c.steps.made was.3 (λ most. c.is_reached.ensures.fewer most c.if-is_reached.false) was.2,
      still_other c.args.reach was.1 next was.4 (λ n is. rw c.next.ensures at c.is_reached.ensures.other n c.if-is_reached.false is),
      omega (arith, c.in_ok-walk_one.ensures.step, was.5, length-append was.1 (next ∷ [])),
      walks_then c.args.world.now c.args.pass.now c.args.seat.now c.args.teller.now.text.items c.steps.pass c.steps.seat c.steps.teller.text.items c.walk_one.new.pass c.walk_one.new.seat
          c.walk_one.new.teller.text.items was.1 (next ∷ []) was.6 (sym c.is_open.ensures ∙ c.steps-test.true) c.in_ok-walk_one.ensures.walks,
    )

pub steps-smaller : goal.steps-smaller
steps-smaller g c =
    goes_nearer c.args.world.now.limits c.steps.seat.own c.steps.seat.call c.walk_one.new.seat.own c.walk_one.new.seat.call (sym c.is_open.ensures ∙ c.steps-test.true) c.in_ok-walk_one.ensures.nearer
