use Rattle.std.proofs.Common.{◌∙◌, ap, subst, sym}
use Rattle.ulfm_run.specs.Table.{IsTable, StandsFor, Table, progress_of}
use Rattle.ulfm_run.proofs.Whole.{gone_far, ran_next, ran_steps, stood}
use Rattle.ulfm_run.proofs.table.StepTableStepMachine.steps.Goals as goal

pub walk_rank-made-requires : goal.walk_rank-made-requires
walk_rank-made-requires g c = record { stands = rw c.deref_mut.ensures.value (c.self.invariant c.if-self.false) }

pub invariant_of-self : goal.invariant_of-self
invariant_of-self g c = λ kept.
    let was = c.self.invariant c.if-self.false in
    let name = c.self.inside.world in
    ran_next name c.walk_rank-made.new.pass c.self.inside.seats c.walk_rank-made.new.seats (c.walk_rank-made.auto.seats ∙ c.deref_mut.ensures.len) c.walk_rank-made.result (sym c.is_err-self-inside.ensures.value ∙ kept)
    (stood (StandsFor name c.walk_rank-made.new.pass c.walk_rank-made.new.seats) was.0 c.args.rank c.args.reach c.args.teller.now.text.items c.walk_rank-made.new.teller.text.items c.walk_rank-made.result
    (c.walk_rank-made.ensures.tells was.0 (rw c.deref_mut.ensures.value was.1)))

pub returns-clause-tells : goal.returns-clause-tells
returns-clause-tells g c = λ now stands.
    ran_steps c.self.inside.world c.walk_rank-made.new.pass c.self.inside.seats c.walk_rank-made.new.seats (c.walk_rank-made.auto.seats ∙ c.deref_mut.ensures.len) now c.args.rank c.args.reach c.args.teller.now.text.items
    c.walk_rank-made.new.teller.text.items c.walk_rank-made.result (c.walk_rank-made.ensures.tells now (rw c.deref_mut.ensures.value (subst (λ (t : Table). IsTable t now) (sym c.self.view_is) stands)))

pub returns-clause-goes : goal.returns-clause-goes
returns-clause-goes g c =
    gone_far c.self.inside.world c.walk_rank-made.new.pass c.self.inside.seats c.walk_rank-made.new.seats (c.walk_rank-made.auto.seats ∙ c.deref_mut.ensures.len)
    (progress_of c.self.inside.pass c.self.inside.seats.items) (progress_of c.args.self.now.pass c.args.self.now.seats) c.args.rank c.args.reach c.walk_rank-made.result
    (ap (λ (t : Table). progress_of t.pass t.seats) c.self.view_is) (rw c.deref_mut.ensures.value at c.walk_rank-made.ensures.goes)
