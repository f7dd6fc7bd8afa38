use Rattle.std.proofs.Common.{◌≡◌, Bool, List, ap, false, get_or, map, replicate, subst, ◌∙◌}
use Rattle.std.specs.Prelude.{IsTrue}
use Rattle.ulfm_observed.specs.declared.stages.{Stage.{Stage}, Stage.TheVariants.{Idle}}
use Rattle.ulfm_observed.specs.{Explains.{is_lost}, LogTexts.{heard_of}, Stages.{may_stop, shown_of, stage_after}}
use Rattle.ulfm_observed.proofs.Ranked.{one_everywhere}
use Rattle.ulfm_observed.proofs.wills.are_wills_kept.Goals as goal

-- Each rank begins idle, and the table tells whose lines' end was lost.
pub returns : goal.returns
returns g c = λ kept r.
    let made : c.deref_mut.result.now ≡ replicate c.from.result Idle =
    c.deref_mut.ensures.value ∙ c.in_ok-stages.ensures.items_if_clones_equal (λ y same. same) in
    let start : get_or c.deref_mut.result.now r Idle ≡ Idle =
    ap (λ (stages : List Stage). get_or stages r Idle) made ∙ one_everywhere c.from.result Idle r in
    let told = rw c.in-Some.is at c.in_ok-lost.ensures in
    let lost : get_or c.deref.result.now r false ≡ is_lost r (map heard_of c.args.lines.now) =
    ap (λ (noted : List Bool). get_or noted r false) c.deref.ensures.value ∙ told r in
    let trace = map shown_of c.args.steps.now in
    subst (λ (b : Bool). IsTrue (may_stop (stage_after r b Idle trace))) lost
    (subst (λ (stage : Stage). IsTrue (may_stop (stage_after r (get_or c.deref.result.now r false) stage trace))) start
    (c.are_kept_behind.ensures kept r))
