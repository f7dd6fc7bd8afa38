use Rattle.std.proofs.Common.{None, Some, refl}
use Rattle.ulfm_lines.specs.declared.step_machine.Reach.{Reach}
use Rattle.ulfm_model.specs.declared.step_line.StepLine.TheVariants.{Before, Finished, Stepped}
use Rattle.ulfm_model.specs.Traces.{nothing, said_by}
use Rattle.ulfm_run.specs.FailingScripts.{state_of}
use Rattle.ulfm_run.proofs.Far.{comes_all, comes_before, comes_stepped, counts_called, counts_failed}
use Rattle.ulfm_run.proofs.FailLemmas.{called_events, failed_events, took_other, walk_step}
use Rattle.ulfm_run.proofs.failing.FailingLines.take.Goals as goal

pub returns-in-Called-clause-told : goal.returns-in-Called-clause-told
returns-in-Called-clause-told g c = λ limits trace rest at.
    let m = g.M.StepMachine.Stands in
    took_other (state_of m c.args.self.now) (m c.run.new.self) limits trace rest at c.args.step.now
    (rw c.in-Called.is (λ piece is. called_events (said_by (nothing limits) trace) c.in-Called.call c.in-Called.padded piece is)) c.run.new.teller.text.items c.run.result
    (c.run.ensures.tells (said_by (nothing limits) trace) at.stands.says)

pub returns-in-Failed-clause-told : goal.returns-in-Failed-clause-told
returns-in-Failed-clause-told g c = λ limits trace rest at.
    let m = g.M.StepMachine.Stands in
    took_other (state_of m c.args.self.now) (m c.run-in-Failed.new.self) limits trace rest at c.args.step.now
    (rw c.in-Failed.is (λ piece is. failed_events (said_by (nothing limits) trace) c.in-Failed.rank piece is)) c.run-in-Failed.new.teller.text.items c.run-in-Failed.result
    (c.run-in-Failed.ensures.tells (said_by (nothing limits) trace) at.stands.says)

pub returns-in_ok-walk-in-Stepped-clause-told : goal.returns-in_ok-walk-in-Stepped-clause-told
returns-in_ok-walk-in-Stepped-clause-told g c = λ limits trace rest at.
    let m = g.M.StepMachine.Stands in
    let reach : Reach = record { most = Some c.in-Stepped.count; name = None } in
    let w = c.in_ok-walk-in-Stepped.ensures.told limits trace rest at.stands in
    rw c.in-Stepped.is
    (walk_step (state_of m c.args.self.now) (state_of m c.walk.new.self) limits trace rest c.in-Stepped.rank reach
    (Stepped c.in-Stepped.rank c.in-Stepped.count) w (w.taken.by, w.taken.few c.in-Stepped.count refl))

pub returns-in_ok-walk-in-Before-clause-told : goal.returns-in_ok-walk-in-Before-clause-told
returns-in_ok-walk-in-Before-clause-told g c = λ limits trace rest at.
    let m = g.M.StepMachine.Stands in
    let reach : Reach = record { most = None; name = Some c.in-Before.name } in
    let w = c.in_ok-walk-in-Before.ensures.told limits trace rest at.stands in
    rw c.in-Before.is
    (walk_step (state_of m c.args.self.now) (state_of m c.walk-in-Before.new.self) limits trace rest c.in-Before.rank reach
    (Before c.in-Before.rank c.in-Before.name) w (w.taken.by, w.taken.before c.in-Before.name refl))

pub returns-in_ok-walk-in-Finished-clause-told : goal.returns-in_ok-walk-in-Finished-clause-told
returns-in_ok-walk-in-Finished-clause-told g c = λ limits trace rest at.
    let m = g.M.StepMachine.Stands in
    let reach : Reach = record { most = None; name = None } in
    let w = c.in_ok-walk-in-Finished.ensures.told limits trace rest at.stands in
    rw c.in-Finished.is
    (walk_step (state_of m c.args.self.now) (state_of m c.walk-in-Finished.new.self) limits trace rest c.in-Finished.rank reach
    (Finished c.in-Finished.rank) w (w.taken.by, w.taken.ends refl))

pub returns-in_ok-walk-in-Stepped-clause-far : goal.returns-in_ok-walk-in-Stepped-clause-far
returns-in_ok-walk-in-Stepped-clause-far g c =
    let after = c.walk.new.self in
    rw c.in-Stepped.is (comes_stepped c.in-Stepped.count c.args.self.now.made after.made ((g.M.StepMachine.Has after.machine).next c.in-Stepped.rank) c.in_ok-walk-in-Stepped.ensures.far)

pub returns-in_ok-walk-in-Before-clause-far : goal.returns-in_ok-walk-in-Before-clause-far
returns-in_ok-walk-in-Before-clause-far g c =
    let after = c.walk-in-Before.new.self in
    rw c.in-Before.is (comes_before c.in-Before.name c.args.self.now.made after.made ((g.M.StepMachine.Has after.machine).next c.in-Before.rank) c.in_ok-walk-in-Before.ensures.far)

pub returns-in_ok-walk-in-Finished-clause-far : goal.returns-in_ok-walk-in-Finished-clause-far
returns-in_ok-walk-in-Finished-clause-far g c =
    let after = c.walk-in-Finished.new.self in
    rw c.in-Finished.is (comes_all c.args.self.now.made after.made ((g.M.StepMachine.Has after.machine).next c.in-Finished.rank) c.in_ok-walk-in-Finished.ensures.far)

pub returns-in-Called-clause-counts : goal.returns-in-Called-clause-counts
returns-in-Called-clause-counts g c = λ same.
    let m = g.M.StepMachine.Has in
    let was = c.args.self.now in
    rw c.in-Called.is
    (counts_called (m was.machine) (m c.run.new.self) was.made c.in-Called.call c.in-Called.padded c.run.result (rw c.in-Called.is at c.run.ensures.goes))

pub returns-in-Failed-clause-counts : goal.returns-in-Failed-clause-counts
returns-in-Failed-clause-counts g c = λ same.
    let m = g.M.StepMachine.Has in
    let was = c.args.self.now in
    rw c.in-Failed.is (counts_failed (m was.machine) (m c.run-in-Failed.new.self) was.made c.in-Failed.rank c.run-in-Failed.result)

pub returns-in_ok-walk-in-Stepped-clause-counts : goal.returns-in_ok-walk-in-Stepped-clause-counts
returns-in_ok-walk-in-Stepped-clause-counts g c = λ same. rw c.in-Stepped.is (c.in_ok-walk-in-Stepped.ensures.counts same)

pub returns-in_ok-walk-in-Before-clause-counts : goal.returns-in_ok-walk-in-Before-clause-counts
returns-in_ok-walk-in-Before-clause-counts g c = λ same. rw c.in-Before.is (c.in_ok-walk-in-Before.ensures.counts same)

pub returns-in_ok-walk-in-Finished-clause-counts : goal.returns-in_ok-walk-in-Finished-clause-counts
returns-in_ok-walk-in-Finished-clause-counts g c = λ same. rw c.in-Finished.is (c.in_ok-walk-in-Finished.ensures.counts same)
