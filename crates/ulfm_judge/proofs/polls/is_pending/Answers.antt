use Rattle.std.proofs.Common.{◌≡◌, List, ℕ, true, sym, ap, ◌∙◌}
use Rattle.ulfm_model.specs.{History.{has}, Records.{Held}}
use Rattle.ulfm_judge.specs.ReplyTests.{late_test}
use Rattle.ulfm_numbers.specs.Telling.{seen_at}
use Rattle.ulfm_judge.proofs.Finding.{one_among, one_at}
use Rattle.ulfm_judge.proofs.polls.is_pending.Goals as goal

pub returns-then-is_late_at : goal.returns-then-is_late_at
returns-then-is_late_at g c =
    let x = c.args.x.now in
    let late = late_test c.args.view.now.look.now (seen_at c.args.view.now.numbers.now c.args.view.now.point) x.comm c.args.round in
    sym (one_at late x.group _ (sym c.is_late_at.ensures ∙ c.if-is_late_at.true))

pub returns-then-is_late : goal.returns-then-is_late
returns-then-is_late g c =
    let x = c.args.x.now in
    let last = c.hint_of-open.result.1 in
    let seen = seen_at c.args.view.now.numbers.now c.args.view.now.point in
    let group : c.deref-group.result.now ≡ x.group = c.deref-group.ensures.value ∙ ap (λ (y : Held). y.group) c.x.view_is in
    let there : has x.group last ≡ true = sym (ap (λ (ms : List ℕ). has ms last) group) ∙ (sym c.has_member.ensures ∙ c.if-has_member.true) in
    let is : late_test c.args.view.now.look.now seen x.comm c.args.round last ≡ true =
    sym (ap (λ (y : Held). late_test c.args.view.now.look.now seen y.comm c.args.round last) c.x.view_is) ∙ (sym c.is_late.ensures ∙ c.if-is_late.true) in
    sym (one_among (late_test c.args.view.now.look.now seen x.comm c.args.round) x.group last there is)
