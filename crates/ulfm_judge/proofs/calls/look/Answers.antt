use Rattle.std.proofs.Common.{length, refl, arith, sym, ap, ◌∙◌}
use Rattle.std.proofs.lemmas.List.{set-get_or}
use Rattle.ulfm_model.specs.declared.event.Caller.{Caller}
use Rattle.ulfm_judge.proofs.Seating.{is_open_at}
use Rattle.ulfm_judge.proofs.Taking.{inexact, looks, no_call, undue}
use Rattle.ulfm_judge.proofs.calls.look.Goals as goal

pub returns-in_default : goal.returns-in_default
returns-in_default g c = λ h us group known are.
    no_call g.P.Meld.meld c.args.limits h c.args.records.now c.args.calls.now us are group c.args.rank c.args.count (sym c.place_by.ensures.at ∙ c.in_default.is)

pub bounds-calls-i : goal.bounds-calls-i
bounds-calls-i g c = rw c.in-Some.is at c.place_by.ensures.within

pub returns-then-not-is_due : goal.returns-then-not-is_due
returns-then-not-is_due g c = λ h us group known are.
    rw set-get_or
    (undue g.P.Meld.meld c.args.limits h c.args.records.now c.args.calls.now us are group c.args.rank c.args.count c.in-Some.i c.index-calls-i.result (sym c.place_by.ensures.at ∙ c.in-Some.is)
    (sym c.is_due.ensures ∙ c.if-not-is_due.true))

pub returns-then-from-known : goal.returns-then-from-known
returns-then-from-known g c = λ h us group known are.
    rw set-get_or
    (inexact g.P.Meld.meld c.args.limits h c.args.records.now c.args.calls.now us are group c.args.rank c.args.count c.in-Some.i c.index-calls-i.result (sym c.place_by.ensures.at ∙ c.in-Some.is)
    (λ e. absurd (omega (arith, c.if-from-known.true, c.from.ensures, ap length known, e))))

pub returns : goal.returns
returns g c = λ h us group known are.
    let at = sym c.place_by.ensures.at ∙ c.in-Some.is in
    looks g.P.Meld.meld c.args.limits h c.args.records.now c.args.calls.now us are group c.args.rank c.args.count c.in-Some.i c.index-calls-i.result _ at
    (sym c.is_due.ensures ∙ c.if-not-is_due.false)
    (omega (arith, c.if-from-known.false, c.from.ensures, ap length known)) (is_open_at c.args.calls.now (Caller.Rank c.args.rank) c.in-Some.i c.index-calls-i.result at) refl
