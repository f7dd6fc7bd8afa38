use Rattle.std.proofs.Common.{None, Some, arith, refl}
use Rattle.ulfm_model.specs.declared.step_line.StepLine.TheVariants.{Before, Finished, Stepped}
use Rattle.ulfm_lines.specs.declared.step_machine.Reach.{Reach}
use Rattle.ulfm_lines.proofs.Taking.{steps_tell, taken_steps}
use Rattle.ulfm_run.specs.Table.{StandsFor, progress_of}
use Rattle.ulfm_run.proofs.Goes.{goes_all, goes_before, goes_stepped}
use Rattle.ulfm_run.proofs.step_lines.run_line.Goals as goal

pub returns-in_ok-run_fail-in-Failed-clause-tells : goal.returns-in_ok-run_fail-in-Failed-clause-tells
returns-in_ok-run_fail-in-Failed-clause-tells g c = λ now stands. rw c.in-Failed.is (c.in_ok-run_fail-in-Failed.ensures.tells now stands)

pub returns-in_ok-run_fail-in-Failed-clause-stands : goal.returns-in_ok-run_fail-in-Failed-clause-stands
returns-in_ok-run_fail-in-Failed-clause-stands g c = let t = c.in_ok-run_fail-in-Failed.ensures.tells c.requires.stands.0 c.requires.stands.1 in (t.1, t.3)

pub returns-in_ok-walk_rank-in-Stepped-clause-tells : goal.returns-in_ok-walk_rank-in-Stepped-clause-tells
returns-in_ok-walk_rank-in-Stepped-clause-tells g c = λ now stands.
    let left = StandsFor c.args.world.now c.walk_rank.new.pass c.walk_rank.new.seats in
    let reach : Reach = record { most = Some c.in-Stepped.count; name = None } in
    let t = c.in_ok-walk_rank-in-Stepped.ensures.tells now stands in
    let k = taken_steps left now c.in-Stepped.rank reach c.in_ok-walk_rank-in-Stepped.field-0 c.args.teller.now.text.items c.walk_rank.new.teller.text.items t in
    rw c.in-Stepped.is
    (steps_tell left now (Stepped c.in-Stepped.rank c.in-Stepped.count) c.in-Stepped.rank reach c.in_ok-walk_rank-in-Stepped.field-0 c.args.teller.now.text.items c.walk_rank.new.teller.text.items t (k.by, k.few c.in-Stepped.count refl))

pub returns-in_ok-walk_rank-in-Stepped-clause-stands : goal.returns-in_ok-walk_rank-in-Stepped-clause-stands
returns-in_ok-walk_rank-in-Stepped-clause-stands g c = let t = c.in_ok-walk_rank-in-Stepped.ensures.tells c.requires.stands.0 c.requires.stands.1 in (_, t.stands)

pub returns-in_ok-walk_rank-in-Before-clause-tells : goal.returns-in_ok-walk_rank-in-Before-clause-tells
returns-in_ok-walk_rank-in-Before-clause-tells g c = λ now stands.
    let left = StandsFor c.args.world.now c.walk_rank-in-Before.new.pass c.walk_rank-in-Before.new.seats in
    let reach : Reach = record { most = None; name = Some c.in-Before.name } in
    let t = c.in_ok-walk_rank-in-Before.ensures.tells now stands in
    let k = taken_steps left now c.in-Before.rank reach c.in_ok-walk_rank-in-Before.field-0 c.args.teller.now.text.items c.walk_rank-in-Before.new.teller.text.items t in
    rw c.in-Before.is
    (steps_tell left now (Before c.in-Before.rank c.in-Before.name) c.in-Before.rank reach c.in_ok-walk_rank-in-Before.field-0 c.args.teller.now.text.items c.walk_rank-in-Before.new.teller.text.items t (k.by, k.before c.in-Before.name refl))

pub returns-in_ok-walk_rank-in-Before-clause-stands : goal.returns-in_ok-walk_rank-in-Before-clause-stands
returns-in_ok-walk_rank-in-Before-clause-stands g c = let t = c.in_ok-walk_rank-in-Before.ensures.tells c.requires.stands.0 c.requires.stands.1 in (_, t.stands)

pub returns-in_ok-walk_rank-in-Finished-clause-tells : goal.returns-in_ok-walk_rank-in-Finished-clause-tells
returns-in_ok-walk_rank-in-Finished-clause-tells g c = λ now stands.
    let left = StandsFor c.args.world.now c.walk_rank-in-Finished.new.pass c.walk_rank-in-Finished.new.seats in
    let reach : Reach = record { most = None; name = None } in
    let t = c.in_ok-walk_rank-in-Finished.ensures.tells now stands in
    let k = taken_steps left now c.in-Finished.rank reach c.in_ok-walk_rank-in-Finished.field-0 c.args.teller.now.text.items c.walk_rank-in-Finished.new.teller.text.items t in
    rw c.in-Finished.is
    (steps_tell left now (Finished c.in-Finished.rank) c.in-Finished.rank reach c.in_ok-walk_rank-in-Finished.field-0 c.args.teller.now.text.items c.walk_rank-in-Finished.new.teller.text.items t (k.by, k.ends refl))

pub returns-in_ok-walk_rank-in-Finished-clause-stands : goal.returns-in_ok-walk_rank-in-Finished-clause-stands
returns-in_ok-walk_rank-in-Finished-clause-stands g c = let t = c.in_ok-walk_rank-in-Finished.ensures.tells c.requires.stands.0 c.requires.stands.1 in (_, t.stands)

pub returns-in_ok-walk_rank-in-Stepped-clause-goes : goal.returns-in_ok-walk_rank-in-Stepped-clause-goes
returns-in_ok-walk_rank-in-Stepped-clause-goes g c =
    let asked = rw c.in-Stepped.is at c.requires.step in
    rw c.in-Stepped.is
    (goes_stepped (progress_of c.args.pass.now c.args.seats.now) (progress_of c.walk_rank.new.pass c.walk_rank.new.seats) c.in-Stepped.rank c.in_ok-walk_rank-in-Stepped.field-0 c.in-Stepped.count (omega (arith, asked.1.2)) c.in_ok-walk_rank-in-Stepped.ensures.goes)

pub returns-in_ok-walk_rank-in-Before-clause-goes : goal.returns-in_ok-walk_rank-in-Before-clause-goes
returns-in_ok-walk_rank-in-Before-clause-goes g c =
    rw c.in-Before.is
    (goes_before (progress_of c.args.pass.now c.args.seats.now) (progress_of c.walk_rank-in-Before.new.pass c.walk_rank-in-Before.new.seats) c.in-Before.rank c.in_ok-walk_rank-in-Before.field-0 c.in-Before.name c.in_ok-walk_rank-in-Before.ensures.goes)

pub returns-in_ok-walk_rank-in-Finished-clause-goes : goal.returns-in_ok-walk_rank-in-Finished-clause-goes
returns-in_ok-walk_rank-in-Finished-clause-goes g c =
    rw c.in-Finished.is
    (goes_all (progress_of c.args.pass.now c.args.seats.now) (progress_of c.walk_rank-in-Finished.new.pass c.walk_rank-in-Finished.new.seats) c.in-Finished.rank c.in_ok-walk_rank-in-Finished.field-0 c.in_ok-walk_rank-in-Finished.ensures.goes)

pub returns-in_ok-walk_rank-in-Stepped-clause-others : goal.returns-in_ok-walk_rank-in-Stepped-clause-others
returns-in_ok-walk_rank-in-Stepped-clause-others g c = rw c.in-Stepped.is c.walk_rank.ensures.others

pub returns-in_ok-walk_rank-in-Before-clause-others : goal.returns-in_ok-walk_rank-in-Before-clause-others
returns-in_ok-walk_rank-in-Before-clause-others g c = rw c.in-Before.is c.walk_rank-in-Before.ensures.others

pub returns-in_ok-walk_rank-in-Finished-clause-others : goal.returns-in_ok-walk_rank-in-Finished-clause-others
returns-in_ok-walk_rank-in-Finished-clause-others g c = rw c.in-Finished.is c.walk_rank-in-Finished.ensures.others

pub returns-in_ok-run_fail-in-Failed-clause-others : goal.returns-in_ok-run_fail-in-Failed-clause-others
returns-in_ok-run_fail-in-Failed-clause-others g c = rw c.in-Failed.is refl
