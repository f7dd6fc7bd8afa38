use Rattle.std.proofs.Common.{◌≡◌, ◌<◌, length, subst, sym, ◌∙◌, rules}
use Rattle.std.specs.List.{AllByRecursion}
use Rattle.ulfm_model.proofs.Lists.{each_from}
use Rattle.ulfm_book_tests.proofs.Jobs.{each_at, each_remove}
use Rattle.ulfm_book_tests.proofs.tests.revoking.revoke_while_polled.Goals as goal

pub loop-replies-init : goal.loop-replies-init
loop-replies-init g c =
    let name = c.in_ok-outside.outside.words in
    let done = c.in_ok-done.done.items in
    let below : c.from.result < length done = search rules in
    let named = each_at (λ d. d.1.view.words ≡ name) done c.from.result c.remove-reply.result c.in_ok-done.ensures below in
    let told : c.told-told.result.name ≡ name = c.told-told.ensures.name_is ∙ subst (λ d. d.1.view.words ≡ name) (sym c.remove-reply.ensures.value) named in
    let others = subst (AllByRecursion (λ d. d.1.view.words ≡ name)) (sym c.remove-reply.ensures.items) (each_remove (λ d. d.1.view.words ≡ name) done c.from.result c.in_ok-done.ensures) in
    subst (AllByRecursion (λ d. d.1.view.words ≡ c.told-told.result.name)) (sym c.into_iter-replies-iterator.ensures.into_iter_gives.0)
    (each_from (λ d. d.1.view.words ≡ name) (λ d. d.1.view.words ≡ c.told-told.result.name) (λ d of. of ∙ sym told) c.remove-reply.new.self.items others)

pub loop-replies-preserved : goal.loop-replies-preserved
loop-replies-preserved g c = (subst (AllByRecursion (λ d. d.1.view.words ≡ c.told-told.result.name)) c.in-Some.ensures.steps.0 c.loop-replies.invariant).1

pub learn_then_poll-requires : goal.learn_then_poll-requires
learn_then_poll-requires g c = sym (subst (AllByRecursion (λ d. d.1.view.words ≡ c.told-told.result.name)) c.in-Some.ensures.steps.0 c.loop-replies.invariant).0
