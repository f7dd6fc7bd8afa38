use Rattle.std.proofs.Common.{◌≡◌, true, false, MatchBool, sym, ◌∙◌}
use Rattle.ulfm_steps.specs.Arriving.{IsAsked, asked_before, in_order}
use Rattle.ulfm_steps.proofs.Arriving.{some_asked}
use Rattle.ulfm_steps.proofs.arrivals.Arrivals.new.Goals as goal

-- a group that has a member has one that is asked about
pub returns-clause-asked : goal.returns-clause-asked
returns-clause-asked c =
    let group = c.args.group.now in
    let declared = c.args.declared.now in
    let a = c.move_on.new.self in
    let e = c.move_on.ensures in
    elim c.move_on.result as (λ b. MatchBool b (IsAsked group declared a.others a.next) (asked_before group declared a.others a.next ≡ in_order group declared) → IsAsked group declared a.others a.next) [
      | true ↦ λ asked. asked
      | false ↦ λ all. absurd (some_asked group declared c.requires.some (sym all ∙ e.none_between))
    ] e.next
