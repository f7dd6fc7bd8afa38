use Rattle.std.proofs.Common.{◌&&◌, length, sym, ap, ◌∙◌}
use Rattle.ulfm_judge.specs.ReplyTests.{group_test}
use Rattle.ulfm_numbers.specs.Groups.{same_ranks}
use Rattle.ulfm_numbers.specs.Seen.{failed_in}
use Rattle.ulfm_numbers.specs.Telling.{seen_at}
use Rattle.ulfm_numbers.proofs.Deciding.{true_and}
use Rattle.ulfm_judge.proofs.answers.is_failed_reply.Goals as goal

pub returns-then-all : goal.returns-then-all
returns-then-all g c =
    let seen = seen_at c.args.view.now.numbers.now c.args.view.now.point in
    let all = sym c.found_all-all.ensures ∙ c.if-all.true in
    c.is_group_reply.ensures
    ∙ (ap (λ n. group_test n c.args.reply.now) c.count_failed-count.ensures
    ∙ true_and (same_ranks seen.failures c.args.view.now.look.now) (group_test (length (failed_in seen c.args.comm)) c.args.reply.now) all)

pub returns-else-all : goal.returns-else-all
returns-else-all g c =
    let seen = seen_at c.args.view.now.numbers.now c.args.view.now.point in
    c.if-all.false ∙ sym (ap (λ b. b && group_test (length (failed_in seen c.args.comm)) c.args.reply.now) (sym c.found_all-all.ensures ∙ c.if-all.false))
