use Rattle.std.proofs.Common.{◌≡◌, ◌∙◌, Some, sym, ap}
use Rattle.std.specs.Prelude.{option_map}
use Rattle.ulfm_explore.specs.Readings.{row_in}
use Rattle.ulfm_explore.specs.Views.{row_of}
use Rattle.ulfm_explore.proofs.Walks.{one_row_more}
use Rattle.ulfm_explore.proofs.confirm.read_rows.Goals as goal

pub loop-rank-preserved : goal.loop-rank-preserved
loop-rank-preserved g c =
    let f = row_in c.args.program.now c.args.callers.now c.args.trace.now c.args.at_rest in
    let is : Some (row_of c.in-Some.row) ≡ f c.loop-rank.rank = sym (ap (option_map row_of) c.in-Some.is) ∙ c.in_ok-row.ensures in
    one_row_more f c.loop-rank.rank c.loop-rank.rows.items c.push.new.self.items c.in-Some.row c.loop-rank.invariant is c.in_ok-push-in-Some.ensures.items
