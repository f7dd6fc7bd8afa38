use Rattle.std.proofs.Common.{◌≡◌, refl, subst, sym, ◌∙◌, ap}
use Rattle.std.specs.List.{AllByRecursion}
use Rattle.ulfm_model.proofs.Lists.{each_push}
use Rattle.ulfm_book_tests.proofs.tests.revoking.arrive_others.Goals as goal
use Rattle.ulfm_book_tests.proofs.tests.revoking.arrive_others.Goals.{then-number-ne-REVOKER+else-assert_eq, else-number-ne-REVOKER}

pub loop-member-preserved : goal.loop-member-preserved
loop-member-preserved g c =
    let name = c.args.outside.now.words in
    let left = subst (AllByRecursion (λ m. m.view.words ≡ name)) c.in-Some.ensures.steps.0 c.loop-member.invariant.1 in
    let same : c.if-number-ne-REVOKER.member.view.words ≡ c.in-Some.member.view.words =
    elim c.if-number-ne-REVOKER.branch [ then-number-ne-REVOKER+else-assert_eq w ↦ ap (λ m. m.view.words) w.member-is ∙ w.ibarrier.ensures.words | else-number-ne-REVOKER w ↦ ap (λ m. m.view.words) w.member-is ] in
    let all = each_push (λ m. m.view.words ≡ name) c.loop-member.ready.items c.if-number-ne-REVOKER.member c.loop-member.invariant.2 (same ∙ left.0) in
    (refl, left.1, subst (AllByRecursion (λ m. m.view.words ≡ name)) (sym c.in_ok-push.ensures.items) all)
