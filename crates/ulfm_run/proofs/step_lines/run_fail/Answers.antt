use Rattle.ulfm_comm.specs.{Calls.{reply_of}, Fails.{declared}}
use Rattle.ulfm_run.proofs.{Standing.{fail_tells}, Walking.{on_ok}}
use Rattle.ulfm_run.proofs.step_lines.run_fail.Goals as goal

pub returns-clause-tells : goal.returns-clause-tells
returns-clause-tells g c = λ now stands.
    on_ok c.tell_declaration.result
    (fail_tells c.args.world.now c.args.pass.now c.fail_whole-told.new.pass c.args.seats.now now stands c.args.rank (reply_of declared c.fail_whole-told.result) c.fail_whole-told.ensures.tells
    c.fail_whole-told.ensures.of c.fail_whole-told.ensures.onward c.fail_whole-told.ensures.keeps c.args.teller.now.text.items c.tell_declaration.new.teller.text.items)
    (rw c.count.ensures at c.tell_declaration.ensures)
