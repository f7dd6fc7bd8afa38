use Rattle.std.proofs.Common.{◌≡◌, ◌&&◌, ℕ, Bool, List, true, length, min, take, sym, ap, ap₂, ◌∙◌}
use Rattle.std.proofs.lemmas.List.{length-take}
use Rattle.ulfm_model.specs.Records.{Held}
use Rattle.ulfm_model.specs.declared.reply.Reply.{Reply}
use Rattle.ulfm_judge.specs.ReplyTests.{group_test}
use Rattle.ulfm_numbers.specs.Seen.{failed_in}
use Rattle.ulfm_numbers.specs.Telling.{seen_at}
use Rattle.ulfm_numbers.proofs.Deciding.{true_and}
use Rattle.ulfm_judge.proofs.answers.is_acked_group_reply.Goals as goal

-- the lesser of what is acknowledged and of what is known counts the first that are acknowledged
taken_is : {P : Type 0} (reply : Reply P) (all : Bool) (failed : List ℕ) (acked first known least : ℕ) → first ≡ acked → known ≡ length failed → least ≡ min first known
    → all ≡ true → group_test least reply ≡ (all && group_test (length (take acked failed)) reply)
taken_is reply all failed acked first known least is_acked is_known is_least found =
    let size : least ≡ length (take acked failed) = is_least ∙ (ap₂ min is_acked is_known ∙ sym (length-take acked failed)) in
    ap (λ n. group_test n reply) size ∙ true_and all (group_test (length (take acked failed)) reply) found

pub returns-then-all : goal.returns-then-all
returns-then-all g c =
    let own = c.from.ensures ∙ ap (λ (y : Held). y.acked) c.x.view_is in
    let all = sym c.found_all-all.ensures ∙ c.if-all.true in
    c.is_group_reply.ensures
    ∙ taken_is c.args.reply.now _ _ _ _ _ _ own c.count_failed-known.ensures c.min-count.ensures all

pub returns-else-all : goal.returns-else-all
returns-else-all g c =
    let seen = seen_at c.args.view.now.numbers.now c.args.view.now.point in
    let test = group_test (length (take c.args.x.now.acked (failed_in seen c.args.comm))) c.args.reply.now in
    c.if-all.false ∙ sym (ap (λ b. b && test) (sym c.found_all-all.ensures ∙ c.if-all.false))
