use Rattle.std.proofs.Common.{◌≡◌, refl, subst, sym}
use Rattle.std.specs.Arc.{arc_value}
use Rattle.ulfm_laws.specs.{Flags.{flag_meld}, declared.flag_and.FlagAnd.{FlagAnd}}
use Rattle.ulfm_wait.specs.Members.{IsMember}
use Rattle.ulfm_examples_tests.proofs.Begun.{stands_begun}
use Rattle.ulfm_examples_tests.proofs.tests.ranks.rank_step.Goals as goal

pub step-requires-clause-stood : goal.step-requires-clause-stood
step-requires-clause-stood g c =
    let is = subst (IsMember flag_meld (λ (flag : FlagAnd). flag.bits)) c.into_parts-world.ensures.parts c.into_parts-world.ensures.of in
    let name = c.deref.result.now in
    let same = subst (λ w. arc_value c.into_parts-world.result.0 ≡ w) (sym c.deref.ensures) refl in
    stands_begun flag_meld (λ (flag : FlagAnd). flag.bits) _ name c.begin-doing.result.way same is c.begin-doing.ensures.stands
