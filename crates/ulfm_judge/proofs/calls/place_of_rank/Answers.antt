use Rattle.std.proofs.Common.{Some, arith, sym, ap, ◌∙◌}
use Rattle.ulfm_model.specs.declared.record.RankRecord.{RankRecord}
use Rattle.ulfm_judge.proofs.Seating.{numbered_past, numbered_place}
use Rattle.ulfm_judge.proofs.calls.place_of_rank.Goals as goal

pub returns-then-place-records-clause-at : goal.returns-then-place-records-clause-at
returns-then-place-records-clause-at g c = ap Some c.from-place.ensures ∙ sym (numbered_place (λ (own : RankRecord g.row.A.Denot). own.number) c.args.ranks c.args.rank c.args.records.now c.requires (omega (arith, c.if-place-records.true, c.from-place.ensures)))

pub returns-else-place-records-clause-at : goal.returns-else-place-records-clause-at
returns-else-place-records-clause-at g c = sym (numbered_past (λ (own : RankRecord g.row.A.Denot). own.number) c.args.ranks c.args.rank c.args.records.now c.requires (omega (arith, c.if-place-records.false, c.from-place.ensures)))
