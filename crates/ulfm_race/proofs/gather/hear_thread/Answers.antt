use Rattle.std.proofs.Common.{IfOk, IsTrue, subst}
use Rattle.std.specs.List.{list_any}
use Rattle.ulfm_laws.specs.Flags.{flag_meld}
use Rattle.ulfm_model.specs.{History.{IsLegal}, Records.{Fits}}
use Rattle.ulfm_race.specs.Races.{IsAnswered, IsDeclared, is_refused}
use Rattle.ulfm_race.proofs.Gathering.{heard_is, report_ended}
use Rattle.ulfm_race.proofs.gather.hear_thread.Goals as goal

pub returns-in-Ok-read-clause-answered : goal.returns-in-Ok-read-clause-answered
returns-in-Ok-read-clause-answered g c =
    let plan = c.args.handle.promise.plan in
    let number = c.args.handle.promise.number in
    let report = c.finish-report.result in
    let kept = c.finish-report.ensures.kept in
    let seen = c.finish-report.new.outside.seen in
    let legal = subst (λ l. IsLegal flag_meld l seen) c.requires.limits c.finish-report.ensures.of.legal in
    let fits = subst (λ l. Fits flag_meld l report.told.seen report.rank.own) c.requires.limits kept.fits in
    let answered = subst (λ o. IfOk o (λ t. IsAnswered plan report.told.seen number report.rank.own t.value.items)) c.in-Ok.is kept.answered in
    let refused = subst (λ o. IfOk o (λ t. IsTrue (list_any is_refused t.value.items) → IsDeclared report.told.seen number)) c.in-Ok.is kept.refused in
    heard_is plan report.told.seen seen c.finish-report.ensures.learned legal report.rank.own fits number c.in-Ok.token.value.items c.in-Ok-read.heard.replies.items c.in-Ok-read.ensures.replies
    answered refused c.in-Ok-read.heard.made c.in-Ok-read.heard.group.items c.in-Ok-read.ensures.made c.in-Ok-read.ensures.group c.in-Ok-read.ensures.nobody

pub returns-in-Ok-read-clause-ended : goal.returns-in-Ok-read-clause-ended
returns-in-Ok-read-clause-ended g c = report_ended c.finish-report.ensures.kept c.requires.limits c.finish-report.ensures.of.legal c.finish-report.ensures.learned

pub returns-in-Ok-clause-ended : goal.returns-in-Ok-clause-ended
returns-in-Ok-clause-ended g c = report_ended c.finish-report.ensures.kept c.requires.limits c.finish-report.ensures.of.legal c.finish-report.ensures.learned

pub returns-clause-ended : goal.returns-clause-ended
returns-clause-ended g c = report_ended c.finish-report.ensures.kept c.requires.limits c.finish-report.ensures.of.legal c.finish-report.ensures.learned
