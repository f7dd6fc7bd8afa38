use Rattle.std.proofs.Common.{false, sym}
use Rattle.ulfm_words.specs.Steps.{over}
use Rattle.ulfm_comm_tests.proofs.Seats.{answered_fits, stood_next, step_waits}
use Rattle.ulfm_comm_tests.proofs.tests.play.Player.step.Goals as goal

pub returns-in-None-clause-sits : goal.returns-in-None-clause-sits
returns-in-None-clause-sits g c =
    let meld = g.P.Meld.meld in
    let name = over g.P.Packed.pack c.args.world.now in
    let now = g.W.Words.sight c.args.pass.now in
    let after = g.W.Words.sight c.step.new.pass in
    let waits = step_waits meld name g.W.Words.alone c.in-Some.doing.way c.self.inside.own.own now c.step.result c.step.new.doing.way c.step.new.self.own after c.step.ensures.stepped in
    let was = rw (sym c.in-Some.ensures.value) at (rw (sym c.self.view_is) at c.requires.sits) in
    stood_next meld name c.self.inside.own.own now c.in-Some.doing was after waits c.step.new.self.own c.step.new.doing
    (λ old before stood stands waits. c.in-None.ensures.stands false (λ here. absurd (cc here)) old before stood stands waits)

pub returns-in-Some-step-clause-sits : goal.returns-in-Some-step-clause-sits
returns-in-Some-step-clause-sits g c =
    let name = over g.P.Packed.pack c.args.world.now in
    let now = g.W.Words.sight c.args.pass.now in
    let after = g.W.Words.sight c.step.new.pass in
    let waits = step_waits g.P.Meld.meld name g.W.Words.alone c.in-Some.doing.way c.self.inside.own.own now c.step.result c.step.new.doing.way c.step.new.self.own after c.step.ensures.stepped in
    let was = rw (sym c.in-Some.ensures.value) at (rw (sym c.self.view_is) at c.requires.sits) in
    rw c.take.ensures.after (answered_fits g.P.Meld.meld name c.self.inside.own.own now c.in-Some.doing was after waits c.step.new.self.own c.in-Some.doing.way.asked c.in-Some-step.reply c.step.ensures.stepped.of.legal
    (λ old before stood stands waits. c.in-Some-step.ensures.stands false (λ here. absurd (cc here)) old before stood stands waits))

pub returns-in-None-clause-waits : goal.returns-in-None-clause-waits
returns-in-None-clause-waits g c =
    step_waits g.P.Meld.meld (over g.P.Packed.pack c.args.world.now) g.W.Words.alone c.in-Some.doing.way c.self.inside.own.own (g.W.Words.sight c.args.pass.now) c.step.result c.step.new.doing.way c.step.new.self.own (g.W.Words.sight c.step.new.pass) c.step.ensures.stepped

pub returns-in-Some-step-clause-waits : goal.returns-in-Some-step-clause-waits
returns-in-Some-step-clause-waits g c =
    step_waits g.P.Meld.meld (over g.P.Packed.pack c.args.world.now) g.W.Words.alone c.in-Some.doing.way c.self.inside.own.own (g.W.Words.sight c.args.pass.now) c.step.result c.step.new.doing.way c.step.new.self.own (g.W.Words.sight c.step.new.pass) c.step.ensures.stepped
