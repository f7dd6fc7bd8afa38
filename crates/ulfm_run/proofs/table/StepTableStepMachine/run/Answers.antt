use Rattle.std.proofs.Common.{◌∙◌, ap, subst, sym}
use Rattle.ulfm_run.specs.Table.{IsTable, Table, progress_of}
use Rattle.ulfm_run.proofs.Whole.{gone_as_said, ran_next, ran_tells}
use Rattle.ulfm_run.proofs.table.StepTableStepMachine.run.Goals as goal

pub run_line-taken-requires-clause-stands : goal.run_line-taken-requires-clause-stands
run_line-taken-requires-clause-stands g c = rw c.deref_mut.ensures.value (c.self.invariant c.if-self.false)

pub invariant_of-self : goal.invariant_of-self
invariant_of-self g c = λ kept.
    ran_next c.self.inside.world c.run_line-taken.new.pass c.self.inside.seats c.run_line-taken.new.seats (c.run_line-taken.auto.seats ∙ c.deref_mut.ensures.len) c.run_line-taken.result (sym c.is_err-self-inside.ensures.value ∙ kept)
    c.run_line-taken.ensures.stands

pub returns-clause-tells : goal.returns-clause-tells
returns-clause-tells g c = λ now stands.
    ran_tells c.self.inside.world c.run_line-taken.new.pass c.self.inside.seats c.run_line-taken.new.seats (c.run_line-taken.auto.seats ∙ c.deref_mut.ensures.len) now c.args.step.now c.args.teller.now.text.items
    c.run_line-taken.new.teller.text.items c.run_line-taken.result (c.run_line-taken.ensures.tells now (rw c.deref_mut.ensures.value (subst (λ (t : Table). IsTable t now) (sym c.self.view_is) stands)))

pub returns-clause-goes : goal.returns-clause-goes
returns-clause-goes g c =
    gone_as_said c.self.inside.world c.run_line-taken.new.pass c.self.inside.seats c.run_line-taken.new.seats (c.run_line-taken.auto.seats ∙ c.deref_mut.ensures.len)
    (progress_of c.self.inside.pass c.self.inside.seats.items) (progress_of c.args.self.now.pass c.args.self.now.seats) c.args.step.now c.run_line-taken.result
    (ap (λ (t : Table). progress_of t.pass t.seats) c.self.view_is) (rw c.deref_mut.ensures.value at c.run_line-taken.ensures.goes)
