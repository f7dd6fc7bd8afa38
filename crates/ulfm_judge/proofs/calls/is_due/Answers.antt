use Rattle.std.proofs.Common.{◌==◌, ◌&&◌, not, is_some, slice_index_or, sym, ap, ◌∙◌}
use Rattle.ulfm_model.specs.Records.{Record}
use Rattle.ulfm_model.specs.Kept.{record_of}
use Rattle.ulfm_model.proofs.Places.{find_no_place, find_place}
use Rattle.ulfm_judge.specs.Tests.{due_test}
use Rattle.ulfm_judge.proofs.calls.is_due.Goals as goal

pub returns-in-None-look : goal.returns-in-None-look
returns-in-None-look g c =
    let found = find_place (record_of c.args.limits) (λ (x : Record). x.number == c.args.rank) c.args.records.now c.in-Some.i c.index-records-i.result (sym c.place_of_rank.ensures.at ∙ c.in-Some.is) in
    let refused = (slice_index_or c.args.records.now c.in-Some.i c.index-records-i.result).refused in
    sym (ap (λ o. due_test o c.args.look) found ∙ ap (λ look. not (is_some look) && not refused) c.in-None-look.is)

pub returns-in-None : goal.returns-in-None
returns-in-None g c =
    sym (ap (λ o. due_test o c.args.look) (find_no_place (record_of c.args.limits) (λ (x : Record). x.number == c.args.rank) c.args.records.now (sym c.place_of_rank.ensures.at ∙ c.in-None.is)))
