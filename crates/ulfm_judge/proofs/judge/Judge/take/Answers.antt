use Rattle.std.proofs.Common.{List, sym, subst, ◌∙◌}
use Rattle.std.specs.Prelude.{IfOk}
use Rattle.ulfm_model.specs.declared.record.RankRecord.{RankRecord}
use Rattle.ulfm_model.specs.Traces.{Takes}
use Rattle.ulfm_judge.specs.{Kept.{traced_of}, Telling.{TellsSome}}
use Rattle.ulfm_judge.proofs.Leaving.{stands_on}
use Rattle.ulfm_numbers.proofs.Lasting.{written}
use Rattle.ulfm_judge.proofs.judge.Judge.take.Goals as goal

pub returns-clause-taken : goal.returns-clause-taken
returns-clause-taken g c = λ now stands.
    let kept = c.args.self.now in
    let old = traced_of kept.limits now.history kept.records.items now.calls in
    stands_on g.P.Meld.meld kept.limits c.take_line.new.numbers _ c.take_line.new.calls.items c.args.group.now c.args.line.now c.take_line.result old now stands.2
    (subst (λ (rs : List (RankRecord g.row.A.Denot)).
    IfOk c.take_line.result (TellsSome kept.limits c.take_line.new.numbers rs c.take_line.new.calls.items (Takes g.P.Meld.meld old c.args.group.now c.args.line.now)))
    (sym (written kept.records.len c.take_line.new.records kept.records.items (c.take_line.auto.records ∙ c.deref_mut.ensures.len)))
    (rw c.deref_mut.ensures.value at (c.take_line.ensures.taken now.history now.calls stands.0 stands.1)))
