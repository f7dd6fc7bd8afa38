use Rattle.std.proofs.Common.{ℕ, List, ap, ap₂, ◌∙◌}
use Rattle.ulfm_model.specs.declared.event.Event.{Event}
use Rattle.ulfm_model.specs.Answers.{rank_of}
use Rattle.ulfm_judge.specs.{Kept.{under_of}, ReplyTests.{fail_test}}
use Rattle.ulfm_numbers.specs.{Seen.{Seen}, Telling.{seen_at}}
use Rattle.ulfm_numbers.proofs.Seeing.{seen_same}
use Rattle.ulfm_judge.proofs.closing.Asked.answers_call.Goals as goal

pub returns-in-Outside-clause-told : goal.returns-in-Outside-clause-told
returns-in-Outside-clause-told g c = λ h tells.
    let u = under_of c.args.self.now.u.now in
    let r = rank_of u.asked in
    let seen = seen_at c.args.self.now.numbers.now c.args.self.now.point in
    let declared = c.is_declared_at-declared.ensures ∙ (ap seen.declared c.rank_of-rank.ensures ∙ ap (λ (s : Seen g.row.P.Denot). s.declared r) (seen_same c.args.self.now.limits.ranks c.args.self.now.numbers.now h tells c.args.self.now.point)) in
    rw c.in-Outside.is
    (c.is_fail_reply.ensures
    ∙ (ap₂ (λ (own : List (Event g.row.P.Denot)) (n : ℕ). fail_test c.args.self.now.limits c.is_declared_at-declared.result own n c.args.reply.now) c.deref.ensures.value c.rank_of-rank.ensures
    ∙ ap (λ b. fail_test c.args.self.now.limits b u.own r c.args.reply.now) declared))

pub returns-in-Rank-clause-told : goal.returns-in-Rank-clause-told
returns-in-Rank-clause-told g c = λ h tells. rw c.in-Rank.is (c.answers_rank.ensures.told h tells)

pub returns-in-Rank-clause-fits : goal.returns-in-Rank-clause-fits
returns-in-Rank-clause-fits g c = λ may. rw c.in-Rank.is (c.answers_rank.ensures.fits may)
