use Rattle.std.proofs.Common.{Vec, refl, ◌≡◌, ◌==◌, ℕ, List, [], is_some, get_or, take, if◌then◌else◌, sym, subst, ap, ap₂, ◌∙◌}
use Rattle.std.proofs.Math.Seq.{map-set_same}
use Rattle.std.specs.Prelude.{nat_eq, unwrap_or}
use Rattle.std.specs.List.{IsDistinct}
use Rattle.ulfm_model.specs.{Answers.{left_by}, History.{failures}, Records.{Record}}
use Rattle.ulfm_model.proofs.Ranks.{ranks_distinct}
use Rattle.ulfm_model.specs.{declared.record.RankRecord.{RankRecord}, Kept.{record_of}}
use Rattle.ulfm_model.proofs.Places.{find_no_place, find_place}
use Rattle.ulfm_model.specs.Traces.{taken_in}
use Rattle.ulfm_judge.specs.Kept.{traced_of, under_of}
use Rattle.ulfm_numbers.proofs.Lasting.{no_value}
use Rattle.ulfm_judge.proofs.Leaving.{none_changed, on_ok, one_changed}
use Rattle.ulfm_judge.proofs.closing.settle_call.Goals as goal

pub returns-in_default-place_of_rank-clause-numbers : goal.returns-in_default-place_of_rank-clause-numbers
returns-in_default-place_of_rank-clause-numbers g c = refl

pub returns-in_default-place_of_rank-clause-left : goal.returns-in_default-place_of_rank-clause-left
returns-in_default-place_of_rank-clause-left g c = λ h tells.
    let now = traced_of c.args.limits h c.args.records.now [] in
    let none = find_no_place (record_of c.args.limits) (λ (x : Record). x.number == c.in-Rank.rank) c.args.records.now (sym c.place_of_rank.ensures.at ∙ c.in_default-place_of_rank.is) in
    rw c.in-Rank.is
    (none_changed (record_of c.args.limits) (λ (x : Record). x.number) c.in-Rank.rank (taken_in now (under_of c.args.u.now) c.args.point c.args.reply) c.args.records.now none)

pub bounds-records-j : goal.bounds-records-j
bounds-records-j g c = rw c.in-Some.is at c.place_of_rank.ensures.within

pub leave-requires : goal.leave-requires
leave-requires g c = λ x starts holds.
    let at = find_place (record_of c.args.limits) (λ (x : Record). x.number == c.in-Rank.rank) c.args.records.now c.in-Some.j c.index-records-j.result (sym c.place_of_rank.ensures.at ∙ c.in-Some.is) in
    c.requires.fits c.in-Rank.rank _ x c.in-Rank.is at starts holds

pub returns-clause-numbers : goal.returns-clause-numbers
returns-clause-numbers g c =
    map-set_same (λ (own : RankRecord g.row.A.Denot). own.number) c.args.records.now c.in-Some.j c.leave.new.own c.index-records-j.result c.leave.ensures.number

pub returns-clause-left : goal.returns-clause-left
returns-clause-left g c = λ h tells.
    let limits = c.args.limits in
    let now = traced_of limits h c.args.records.now [] in
    let u = under_of c.args.u.now in
    let raw = get_or c.args.records.now c.in-Some.j c.index-records-j.result in
    let old = record_of limits raw in
    let at = sym c.place_of_rank.ensures.at ∙ c.in-Some.is in
    let distinct = subst (IsDistinct nat_eq) (sym c.requires.numbers) (ranks_distinct limits.ranks) in
    let seen : c.in_ok-seen.seen.items ≡ (if is_some u.look then take (unwrap_or u.look 0) (failures h) else old.seen) =
    c.in_ok-seen.ensures ∙ ap₂ (λ (known xs : List ℕ). if is_some u.look then take (unwrap_or u.look 0) known else xs) (c.deref.ensures.value ∙ tells.failures.0) (ap (λ (v : Vec ℕ g.row.A.Denot). v.items) c.replace-before.ensures.value) in
    let same : left_by limits.ranks (take c.args.point h) (record old { seen = c.in_ok-seen.seen.items }) u.asked c.args.reply ≡ taken_in now u c.args.point c.args.reply old =
    ap (λ (xs : List ℕ). left_by limits.ranks (take c.args.point h) (record old { seen = xs }) u.asked c.args.reply) seen in
    rw c.in-Rank.is
    (on_ok c.leave.result _ _
    (λ left.
    one_changed (record_of limits) (λ (x : Record). x.number) c.in-Rank.rank (taken_in now u c.args.point c.args.reply) c.args.records.now c.in-Some.j c.index-records-j.result c.leave.new.own
    distinct at (left ∙ same))
    (c.leave.ensures.left h tells))

pub returns-in_err-seen-clause-numbers : goal.returns-in_err-seen-clause-numbers
returns-in_err-seen-clause-numbers g c =
    map-set_same (λ (own : RankRecord g.row.A.Denot). own.number) c.args.records.now c.in-Some.j _ c.index-records-j.result refl

pub returns-in_err-seen-clause-left : goal.returns-in_err-seen-clause-left
returns-in_err-seen-clause-left g c = λ h tells. no_value _ c.from_residual.result c.from_residual.ensures.0
