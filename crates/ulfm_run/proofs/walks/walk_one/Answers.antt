use Rattle.std.proofs.Common.{◌∙◌, sym}
use Rattle.ulfm_run.proofs.{Counting.{counted}, Walking.{on_ok, walks_one}}
use Rattle.ulfm_run.proofs.walks.walk_one.Goals as goal

pub returns-clause-walks : goal.returns-clause-walks
returns-clause-walks g c =
    on_ok c.tell_step.result
    (walks_one c.args.world.now c.args.pass.now c.args.seat.now c.args.teller.now.text.items c.step.new.pass c.step.new.self c.tell_step.new.teller.text.items c.in_ok-told.told c.in_ok-told.ensures.tells
    c.step.ensures.onward c.in-Some.asked (sym c.asked.ensures ∙ c.in-Some.is))
    (rw c.comm_of.ensures at c.tell_step.ensures)

pub returns-clause-step : goal.returns-clause-step
returns-clause-step g c =
    let name = c.args.world.now in
    on_ok c.tell_step.result
    (λ told. counted name c.requires.sits.0 c.args.pass.now c.step.new.pass c.args.seat.now c.args.seat.now.own.number _ c.requires.sits.1 c.requires.is_open c.in_ok-told.ensures.tells.named) c.tell_step.ensures
