use Rattle.std.proofs.Common.{List, slice_index_or, sym, subst, ap, ◌∙◌}
use Rattle.ulfm_model.specs.declared.event.Event.{Event}
use Rattle.ulfm_judge.specs.Kept.{AreCalls, under_of}
use Rattle.ulfm_model.specs.Traces.{Under, with_event}
use Rattle.ulfm_judge.proofs.Seating.{changed_at, is_open_at, kept_nowhere}
use Rattle.ulfm_judge.proofs.Taking.{change_nobody, event_keeps, owned, unowned}
use Rattle.ulfm_judge.proofs.events.add_own.Goals as goal

pub returns-in_default : goal.returns-in_default
returns-in_default g c = λ us are.
    let none = are c.args.by ∙ kept_nowhere c.args.calls.now c.args.by (sym c.place_by.ensures.at ∙ c.in_default.is) in
    subst (λ (next : List (Under g.row.P.Denot)). AreCalls c.args.calls.now next) (change_nobody c.args.by (with_event c.args.event) us none) are

pub bounds-calls-i : goal.bounds-calls-i
bounds-calls-i g c = rw c.in-Some.is at c.place_by.ensures.within

pub returns-else-is_owned : goal.returns-else-is_owned
returns-else-is_owned g c = λ us are.
    let at = sym c.place_by.ensures.at ∙ c.in-Some.is in
    changed_at c.args.calls.now us c.args.by (with_event c.args.event) (event_keeps c.args.event) c.in-Some.i c.index-calls-i.result _ are at
    (is_open_at c.args.calls.now c.args.by c.in-Some.i c.index-calls-i.result at) (unowned c.args.event _ (sym c.is_owned.ensures ∙ c.if-is_owned.false))

pub returns-in_ok-push : goal.returns-in_ok-push
returns-in_ok-push g c = λ us are.
    let u = under_of (slice_index_or c.args.calls.now c.in-Some.i c.index-calls-i.result) in
    let at = sym c.place_by.ensures.at ∙ c.in-Some.is in
    let is = sym c.is_owned.ensures ∙ c.if-is_owned.true in
    changed_at c.args.calls.now us c.args.by (with_event c.args.event) (event_keeps c.args.event) c.in-Some.i c.index-calls-i.result _ are at
    (is_open_at c.args.calls.now c.args.by c.in-Some.i c.index-calls-i.result at)
    (ap (λ (own : List (Event g.row.P.Denot)). record u { own = own }) c.in_ok-push.ensures.items ∙ owned c.args.event u is)
