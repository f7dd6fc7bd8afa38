use Rattle.std.proofs.Common.{List, Some, refl, sym, subst, ◌∙◌}
use Rattle.std.specs.Prelude.{IfOk}
use Rattle.ulfm_model.specs.{declared.line.Line.{Line}, Traces.{Takes, Under}}
use Rattle.ulfm_judge.specs.{declared.calls.OpenCall.{OpenCall}, Kept.{GoesWith, traced_of}, Telling.{TellsSome}}
use Rattle.ulfm_judge.proofs.{Leaving.{goes_on}, Taking.{unread}}
use Rattle.ulfm_numbers.proofs.Lasting.{written}
use Rattle.ulfm_judge.proofs.judge.take_line.Goals as goal

pub returns-in-Called-clause-taken : goal.returns-in-Called-clause-taken
returns-in-Called-clause-taken g c = λ h us tells are.
    rw c.in-Called.is
    (goes_on c.args.limits c.args.numbers.now c.args.records.now c.begin.new.calls.items (Takes g.P.Meld.meld (traced_of c.args.limits h c.args.records.now us) c.args.group.now (Line.Called c.in-Called.asked c.in-Called.padded)) h
    c.begin.result tells (c.begin.ensures.taken c.args.limits h c.args.records.now us c.args.group.now tells.count are))

pub returns-in-Looked-clause-taken : goal.returns-in-Looked-clause-taken
returns-in-Looked-clause-taken g c = λ h us tells are.
    let limits = c.args.limits in
    let records = c.args.records.now in
    let calls = c.args.calls.now.items in
    let Taken = λ (next : List (Under g.row.P.Denot)). Takes g.P.Meld.meld (traced_of limits h records us) c.args.group.now (Line.Looked c.in-Looked.rank c.in-Looked.failures) (traced_of limits h records next) in
    let looked = rw c.deref_mut.ensures.value at c.look.ensures in
    let goes =
    subst (λ (kept : List (OpenCall g.row.P.Denot g.row.A.Denot)). GoesWith kept Taken c.look.result)
    (sym (written c.args.calls.now.len c.look.new.calls calls (c.look.auto.calls ∙ c.deref_mut.ensures.len)))
    (looked h us c.args.group.now (c.deref.ensures.value ∙ tells.failures.0) are) in
    rw c.in-Looked.is (h, goes.0, tells, goes.1, goes.2)

pub returns-in-Some-clause-taken : goal.returns-in-Some-clause-taken
returns-in-Some-clause-taken g c = λ h us tells are.
    let limits = c.args.limits in
    let records = c.args.records.now in
    let calls = c.args.calls.now.items in
    let happened = rw c.deref_mut-in-Happened.ensures.value at c.happen.ensures in
    rw c.in-Happened.is
    (rw c.in-Some.is
    (subst (λ (kept : List (OpenCall g.row.P.Denot g.row.A.Denot)).
    IfOk c.happen.result
    (TellsSome limits c.happen.new.numbers records kept (Takes g.P.Meld.meld (traced_of limits h records us) c.args.group.now (Line.Happened c.in-Happened.by (Some c.in-Some.event)))))
    (sym (written c.args.calls.now.len c.happen.new.calls calls (c.happen.auto.calls ∙ c.deref_mut-in-Happened.ensures.len)))
    (happened h us c.args.group.now tells are)))

pub returns-in_default-clause-taken : goal.returns-in_default-clause-taken
returns-in_default-clause-taken g c = λ h us tells are. rw c.in-Happened.is (rw c.in_default.is (h, us, tells, are, (refl, refl)))

pub returns-in-Some-reply-clause-taken : goal.returns-in-Some-reply-clause-taken
returns-in-Some-reply-clause-taken g c = λ h us tells are.
    let limits = c.args.limits in
    let calls = c.args.calls.now.items in
    let Taken = Takes g.P.Meld.meld (traced_of limits h c.args.records.now us) c.args.group.now (Line.Replied c.in-Replied.by c.in-Replied.point (Some c.in-Some-reply.reply)) in
    let told = rw c.deref_mut-in-Replied.ensures.value at c.take_reply.ensures.taken in
    rw c.in-Replied.is
    (rw c.in-Some-reply.is
    (goes_on limits c.args.numbers.now c.take_reply.new.records _ Taken h c.take_reply.result tells
    (subst (λ (kept : List (OpenCall g.row.P.Denot g.row.A.Denot)).
    IfOk c.take_reply.result (GoesWith kept (λ (next : List (Under g.row.P.Denot)). Taken (traced_of limits h c.take_reply.new.records next))))
    (sym (written c.args.calls.now.len c.take_reply.new.calls calls (c.take_reply.auto.calls ∙ c.deref_mut-in-Replied.ensures.len)))
    (told h us tells are))))

pub returns-in_default-reply-clause-taken : goal.returns-in_default-reply-clause-taken
returns-in_default-reply-clause-taken g c = λ h us tells are.
    let calls = c.args.calls.now.items in
    let bad = unread g.P.Meld.meld c.args.limits h c.args.records.now calls us are c.args.group.now c.in-Replied.by c.in-Replied.point _ refl in
    let why = rw c.deref-in_default-reply.ensures.value at c.why_unread.ensures in
    rw c.in-Replied.is (rw c.in_default-reply.is (h, us, tells, are, (rw why bad, refl)))
