use Rattle.std.proofs.Common.{sym, ◌∙◌}
use Rattle.ulfm_object.proofs.Answering.{answers_err, answers_nobody, answers_ok, answers_refused}
use Rattle.ulfm_object.proofs.object.answer.Goals as goal

pub returns-in_default-clause-ok : goal.returns-in_default-clause-ok
returns-in_default-clause-ok g c =
    let at = sym (rw c.rank_of-rank.ensures at c.place_of_rank.ensures) ∙ c.in_default.is in
    answers_nobody g.P.Meld.meld c.args.limits c.args.log.now.items c.args.records.now c.args.asked.now at

pub returns-then-own-clause-ok : goal.returns-then-own-clause-ok
returns-then-own-clause-ok g c =
    let at = sym (rw c.rank_of-rank.ensures at c.place_of_rank.ensures) ∙ c.in-Some.is in
    answers_refused g.P.Meld.meld c.args.limits c.args.log.now.items c.args.records.now c.args.asked.now c.in-Some.i c.index-records-i.result at c.if-own.true

pub returns-clause-ok : goal.returns-clause-ok
returns-clause-ok g c =
    let at = sym (rw c.rank_of-rank.ensures at c.place_of_rank.ensures) ∙ c.in-Some.is in
    answers_ok g.P.Meld.meld c.args.limits c.args.log.now.items c.args.records.now c.args.asked.now c.in-Some.i c.index-records-i.result at
    c.answer_in_use.new.own c.answer_in_use.new.log.items c.answer_in_use.result c.requires.numbers c.if-own.false c.answer_in_use.ensures.reply c.answer_in_use.ensures.log c.answer_in_use.ensures.own

pub returns-clause-err : goal.returns-clause-err
returns-clause-err g c =
    let at = sym (rw c.rank_of-rank.ensures at c.place_of_rank.ensures) ∙ c.in-Some.is in
    answers_err g.P.Meld.meld c.args.limits c.args.log.now.items c.args.records.now c.args.asked.now c.in-Some.i c.index-records-i.result at
    c.answer_in_use.new.own c.answer_in_use.new.log.items c.answer_in_use.result c.answer_in_use.ensures.err
