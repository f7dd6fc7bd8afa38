use Rattle.std.proofs.Common.{◌≡◌, ◌==◌, ◌&&◌, ℕ, Bool, true, false, List, [], Option, Some, is_some, take, if◌then◌else◌, sym, subst, ap, ap₂, ◌∙◌}
use Rattle.std.specs.Prelude.{IfOk, unwrap_or}
use Rattle.ulfm_model.specs.declared.{event.Event.{Event}, refusal.Refusal.{Refusal}}
use Rattle.ulfm_model.specs.{History.{History, failures}, Records.{Record}}
use Rattle.ulfm_model.specs.{declared.record.RankRecord.{RankRecord}, Kept.{record_of}}
use Rattle.ulfm_model.proofs.Places.{find_no_place, find_place}
use Rattle.ulfm_model.specs.Traces.{record_in, view_at}
use Rattle.ulfm_judge.proofs.{Answering.{started_fits}, Leaving.{may_leave, no_record, on_test}}
use Rattle.ulfm_numbers.proofs.Seeing.{seen_same}
use Rattle.ulfm_judge.specs.CallsAt.{CallAt, call_of}
use Rattle.ulfm_numbers.specs.{Seen.{Seen}, Telling.{seen_at}}
use Rattle.ulfm_judge.specs.{Kept.{traced_of, under_of}, ReplyTests.{looked_test, rank_test, refused_test}}
use Rattle.ulfm_judge.proofs.closing.Asked.answers_rank.Goals as goal
use Rattle.ulfm_judge.proofs.closing.Asked.answers_rank.Goals.{After-index-records-j}

-- the rank's record is found
found : (g : _) (c : After-index-records-j g) (h : History g.row.P.Denot) → record_in (traced_of c.args.self.now.limits h c.args.self.now.records.now []) c.args.rank ≡ Some (record_of c.args.self.now.limits c.index-records-j.result)
found g c h =
    find_place (record_of c.args.self.now.limits) (λ (x : Record). x.number == c.args.rank) c.args.self.now.records.now c.in-Some.j c.index-records-j.result (sym c.place_of_rank.ensures.at ∙ c.in-Some.is)
    ∙ ap (λ (x : RankRecord g.row.A.Denot). Some (record_of c.args.self.now.limits x)) (sym c.index-records-j.is)

-- the test of its call, by what the call's look found
abbrev looked : (g : _) (c : After-index-records-j g) → History g.row.P.Denot → Option ℕ → Bool
looked g c h look =
    let now = traced_of c.args.self.now.limits h c.args.self.now.records.now [] in
    let u = under_of c.args.self.now.u.now in
    let told = call_of c.args.self.now.limits (view_at now u c.args.self.now.point) (record_of c.args.self.now.limits c.index-records-j.result) in
    is_some look && looked_test g.P.Meld.meld g.P.Packed.pack (record told { look = take (unwrap_or look 0) (failures h) }) u.asked c.args.reply.now

-- so the test of its call is that of what its record tells
tested : (g : _) (c : After-index-records-j g) (h : History g.row.P.Denot) (refused : Bool) → c.index-records-j.result.refused ≡ refused
    → rank_test g.P.Meld.meld g.P.Packed.pack (traced_of c.args.self.now.limits h c.args.self.now.records.now []) (under_of c.args.self.now.u.now) c.args.self.now.point c.args.reply.now (record_in (traced_of c.args.self.now.limits h c.args.self.now.records.now []) c.args.rank)
    ≡ (if refused then refused_test Refusal.SelfFailed c.args.reply.now else looked g c h (under_of c.args.self.now.u.now).look)
tested g c h refused is =
    ap (rank_test g.P.Meld.meld g.P.Packed.pack (traced_of c.args.self.now.limits h c.args.self.now.records.now []) (under_of c.args.self.now.u.now) c.args.self.now.point c.args.reply.now) (found g c h)
    ∙ ap (λ (b : Bool). if b then refused_test Refusal.SelfFailed c.args.reply.now else looked g c h (under_of c.args.self.now.u.now).look) is

pub returns-in_default-clause-told : goal.returns-in_default-clause-told
returns-in_default-clause-told g c = λ h tells.
    let now = traced_of c.args.self.now.limits h c.args.self.now.records.now [] in
    let none = find_no_place (record_of c.args.self.now.limits) (λ (x : Record). x.number == c.args.rank) c.args.self.now.records.now (sym c.place_of_rank.ensures.at ∙ c.in_default.is) in
    c.is_refused.ensures ∙ sym (ap (rank_test g.P.Meld.meld g.P.Packed.pack now (under_of c.args.self.now.u.now) c.args.self.now.point c.args.reply.now) none)

pub returns-then-own-clause-told : goal.returns-then-own-clause-told
returns-then-own-clause-told g c = λ h tells. c.is_refused-then-own.ensures ∙ sym (tested g (goal.at.returns-then-own-clause-told g c).After-index-records-j h true c.if-own.true)

pub returns-in_default-look-clause-told : goal.returns-in_default-look-clause-told
returns-in_default-look-clause-told g c = λ h tells.
    let at = (goal.at.returns-in_default-look-clause-told g c).After-index-records-j in
    sym (tested g at h false c.if-own.false ∙ ap (looked g at h) c.in_default-look.is)

pub returns-clause-told : goal.returns-clause-told
returns-clause-told g c = λ h tells.
    let at = (goal.at.returns-clause-told g c).After-index-records-j in
    let u = under_of c.args.self.now.u.now in
    let told = call_of c.args.self.now.limits (view_at (traced_of c.args.self.now.limits h c.args.self.now.records.now []) u c.args.self.now.point) (record_of c.args.self.now.limits c.index-records-j.result) in
    let is = tested g at h false c.if-own.false ∙ ap (looked g at h) c.in-Some-look.is in
    let look = c.first_of-look.ensures ∙ ap (take c.in-Some-look.count) (c.deref.ensures.value ∙ tells.failures.0) in
    let asked = λ (call : CallAt g.row.P.Denot). looked_test g.P.Meld.meld g.P.Packed.pack call u.asked c.args.reply.now in
    let same =
    ap₂ (λ (xs : List ℕ) (s : Seen g.row.P.Denot). asked (record told { look = xs; seen = s; own = c.deref-2.result.now })) look (seen_same c.args.self.now.limits.ranks c.args.self.now.numbers.now h tells c.args.self.now.point)
    ∙ ap (λ (own : List (Event g.row.P.Denot)). asked (record told { look = take c.in-Some-look.count (failures h); own = own })) c.deref-2.ensures.value in
    subst (λ t. IfOk c.is_answer.result (λ b. b ≡ t)) (same ∙ sym is) c.is_answer.ensures

pub returns-in_default-clause-fits : goal.returns-in_default-clause-fits
returns-in_default-clause-fits g c = λ may is r own x same has.
    let none = find_no_place (record_of c.args.self.now.limits) (λ (x : Record). x.number == c.args.rank) c.args.self.now.records.now (sym c.place_of_rank.ensures.at ∙ c.in_default.is) in
    absurd (no_record {P = g.row.P.Denot} (traced_of c.args.self.now.limits [] c.args.self.now.records.now []) c.args.rank r own none same has)

pub returns-then-own-clause-fits : goal.returns-then-own-clause-fits
returns-then-own-clause-fits g c = λ may is r own x same has starts.
    absurd (cc (c.is_refused-then-own.ensures ∙ ap (refused_test Refusal.SelfFailed) starts, is))

pub returns-in_default-look-clause-fits : goal.returns-in_default-look-clause-fits
returns-in_default-look-clause-fits g c = λ may is. absurd (cc is)

pub returns-clause-fits : goal.returns-clause-fits
returns-clause-fits g c = λ may.
    let u = under_of c.args.self.now.u.now in
    let old = record_of c.args.self.now.limits c.index-records-j.result in
    let call : CallAt g.row.P.Denot = record { limits = c.args.self.now.limits; caller = old; look = c.first_of-look.result.now; seen = seen_at c.args.self.now.numbers.now c.args.self.now.point; own = c.deref-2.result.now } in
    on_test c.is_answer.result _ _ (λ is. may_leave (traced_of c.args.self.now.limits [] c.args.self.now.records.now []) c.args.rank u c.args.reply.now old (found g (goal.at.returns-clause-fits g c).After-index-records-j [])
    (started_fits g.P.Meld.meld g.P.Packed.pack call u.asked c.args.reply.now may.in_range.rounds is)) c.is_answer.ensures
