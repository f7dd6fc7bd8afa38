use Rattle.std.proofs.Common.{◌<◌, length, List, ℕ, None, arith, subst}
use Rattle.std.specs.Prelude.{Option}
use Rattle.ulfm_laws.specs.Flags.{flag_meld}
use Rattle.ulfm_model.specs.declared.line.Why.{Why}
use Rattle.ulfm_model.specs.Traces.{Takes, nothing}
use Rattle.ulfm_observed.proofs.Judged.{all_judged, legal_goes_on}
use Rattle.ulfm_observed.proofs.judging.is_legal.Goals as goal

pub loop-step-init : goal.loop-step-init
loop-step-init g c = (nothing c.args.limits, c.in_ok-judge.ensures.stands, λ rest. rest)

pub loop-step-preserved : goal.loop-step-preserved
loop-step-preserved g c =
    let old = c.loop-step.invariant.0 in
    let taken = c.in_ok-take.ensures.taken old c.loop-step.invariant.1 in
    let step = c.step-item.result in
    let within : c.loop-step.step-index < length c.args.steps.now = omega (arith, c.loop-step-test.true) in
    let came : Takes flag_meld old step.group.items step.line taken.0 None =
    subst (λ (why : Option Why). Takes flag_meld old step.group.items step.line taken.0 why) c.in-None.is
    (subst (λ (group : List ℕ). Takes flag_meld old group step.line taken.0 c.in_ok-take.field-0) c.deref.ensures.value taken.1) in (
      taken.0,
      taken.2,
      λ rest.
          c.loop-step.invariant.2 (legal_goes_on old taken.0 c.args.steps.now c.loop-step.step-index step within c.step-item.is came rest),
    )

pub returns : goal.returns
returns g c = λ yes.
    c.loop-step.invariant.2 (all_judged c.loop-step.invariant.0 c.args.steps.now c.loop-step.step-index (omega (arith, c.loop-step-test.false)))
