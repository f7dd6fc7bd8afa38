use Rattle.std.proofs.Common.{◌≡◌, ◌&&◌, ℕ, Bool, true, length, max, min, sym, ap, ap₂, ◌∙◌}
use Rattle.ulfm_model.specs.Records.{Held}
use Rattle.ulfm_model.specs.declared.reply.Reply.{Reply}
use Rattle.ulfm_judge.specs.ReplyTests.{acked_test}
use Rattle.ulfm_numbers.specs.Seen.{failed_in}
use Rattle.ulfm_numbers.specs.Telling.{seen_at}
use Rattle.ulfm_numbers.proofs.Deciding.{true_and}
use Rattle.ulfm_judge.proofs.answers.is_ack_reply.Goals as goal

-- the greater of what was acknowledged and of the lesser of two counts
acked_is : {P : Type 0} (reply : Reply P) (all : Bool) (own count known first second third least most : ℕ) → first ≡ own → second ≡ count → third ≡ known
    → least ≡ min second third → most ≡ max first least → all ≡ true
    → acked_test most reply ≡ (all && acked_test (max own (min count known)) reply)
acked_is reply all own count known first second third least most is_own is_count is_known is_least is_most found =
    let few : least ≡ min count known = is_least ∙ ap₂ min is_count is_known in
    let acked : most ≡ max own (min count known) = is_most ∙ ap₂ max is_own few in
    ap (λ n. acked_test n reply) acked ∙ true_and all (acked_test (max own (min count known)) reply) found

pub returns-then-all : goal.returns-then-all
returns-then-all g c =
    let own = c.from.ensures ∙ ap (λ (y : Held). y.acked) c.x.view_is in
    let all = sym c.found_all-all.ensures ∙ c.if-all.true in
    c.is_acked_reply.ensures
    ∙ acked_is c.args.reply.now _ _ _ _ _ _ _ _ _ own c.from-2.ensures c.count_failed-known.ensures c.min.ensures c.max-acked.ensures all

pub returns-else-all : goal.returns-else-all
returns-else-all g c =
    let seen = seen_at c.args.view.now.numbers.now c.args.view.now.point in
    let test = acked_test (max c.args.x.now.acked (min c.args.count (length (failed_in seen c.args.comm)))) c.args.reply.now in
    c.if-all.false ∙ sym (ap (λ b. b && test) (sym c.found_all-all.ensures ∙ c.if-all.false))
