use Rattle.std.proofs.Common.{◌==◌, [], sym, ap, ap₂, ◌∙◌, take}
use Rattle.ulfm_model.specs.{Records.{Record}}
use Rattle.ulfm_model.specs.declared.event.Caller.{Caller}
use Rattle.ulfm_model.specs.Kept.{record_of}
use Rattle.ulfm_model.specs.declared.record.RankRecord.{RankRecord}
use Rattle.ulfm_model.proofs.Places.{find_no_place, find_place}
use Rattle.ulfm_judge.specs.declared.calls.OpenCall.{OpenCall}
use Rattle.ulfm_judge.specs.Kept.{traced_of}
use Rattle.ulfm_judge.specs.Tests.{own_test}
use Rattle.ulfm_judge.proofs.Taking.{looked, nobody_adds, none_open, open_here, open_somewhere, stranger_adds, unlooked}
use Rattle.ulfm_judge.proofs.events.is_own.Goals as goal

pub returns-in_default-place_by : goal.returns-in_default-place_by
returns-in_default-place_by g c = λ h us known are.
    let now = traced_of c.args.limits h c.args.records.now us in
    let at = sym c.place_by.ensures.at ∙ c.in_default-place_by.is in
    rw c.in-Rank.is (nobody_adds now c.in-Rank.rank c.args.event.now (none_open g.P.Meld.meld c.args.limits h c.args.records.now c.args.calls.now us are [] (Caller.Rank c.in-Rank.rank) at))

pub returns-in_default-place_of_rank : goal.returns-in_default-place_of_rank
returns-in_default-place_of_rank g c = λ h us known are.
    let now = traced_of c.args.limits h c.args.records.now us in
    let at = sym c.place_by.ensures.at ∙ c.in-Some.is in
    let call = open_somewhere g.P.Meld.meld c.args.limits h c.args.records.now c.args.calls.now us are [] (Caller.Rank c.in-Rank.rank) c.in-Some.i at in
    let none = find_no_place (record_of c.args.limits) (λ (x : Record). x.number == c.in-Rank.rank) c.args.records.now (sym c.place_of_rank.ensures.at ∙ c.in_default-place_of_rank.is) in
    rw c.in-Rank.is (stranger_adds now c.in-Rank.rank c.args.event.now call.0 call.1 none)

pub returns-in_default-look : goal.returns-in_default-look
returns-in_default-look g c = λ h us known are.
    let now = traced_of c.args.limits h c.args.records.now us in
    let at = sym c.place_by.ensures.at ∙ c.in-Some.is in
    let call = open_here g.P.Meld.meld c.args.limits h c.args.records.now c.args.calls.now us are [] (Caller.Rank c.in-Rank.rank) c.in-Some.i c.index-calls-i.result at in
    let own = find_place (record_of c.args.limits) (λ (x : Record). x.number == c.in-Rank.rank) c.args.records.now c.in-Some-place_of_rank.j c.index-records-j.result (sym c.place_of_rank.ensures.at ∙ c.in-Some-place_of_rank.is) in
    rw c.in-Rank.is (unlooked now c.in-Rank.rank c.args.event.now _ _ call own (ap (λ (x : OpenCall g.row.P.Denot g.row.A.Denot). x.look) (sym c.index-calls-i.is) ∙ c.in_default-look.is))

pub returns : goal.returns
returns g c = λ h us known are.
    let now = traced_of c.args.limits h c.args.records.now us in
    let at = sym c.place_by.ensures.at ∙ c.in-Some.is in
    let call = open_here g.P.Meld.meld c.args.limits h c.args.records.now c.args.calls.now us are [] (Caller.Rank c.in-Rank.rank) c.in-Some.i c.index-calls-i.result at in
    let own = find_place (record_of c.args.limits) (λ (x : Record). x.number == c.in-Rank.rank) c.args.records.now c.in-Some-place_of_rank.j c.index-records-j.result (sym c.place_of_rank.ensures.at ∙ c.in-Some-place_of_rank.is) in
    let look = ap (λ (x : OpenCall g.row.P.Denot g.row.A.Denot). x.look) (sym c.index-calls-i.is) ∙ c.in-Some-look.is in
    let found = c.first_of-found.ensures ∙ ap (take c.in-Some-look.count) known in
    let same = ap₂ (λ (x : RankRecord g.row.A.Denot) (u : OpenCall g.row.P.Denot g.row.A.Denot). own_test c.first_of-found.result.now (record_of c.args.limits x) u.asked c.args.event.now) c.index-records-j.is c.index-calls-i.is in
    rw c.in-Rank.is (c.may_own.ensures ∙ (same ∙ looked now c.in-Rank.rank c.args.event.now _ _ c.in-Some-look.count c.first_of-found.result.now call own look found))
