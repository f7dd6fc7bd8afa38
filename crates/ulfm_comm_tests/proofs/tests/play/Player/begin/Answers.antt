use Rattle.std.proofs.Common.{false, sym}
use Rattle.ulfm_words.specs.Steps.{over}
use Rattle.ulfm_comm_tests.proofs.Seats.{stood_first}
use Rattle.ulfm_comm_tests.proofs.tests.play.Player.begin.Goals as goal

pub returns-in-None : goal.returns-in-None
returns-in-None g c =
    let name = over g.P.Packed.pack c.args.world.now in
    let pass = g.W.Words.sight c.args.pass.now in
    let fits = rw c.in-None.is at (rw (sym c.self.view_is) at c.requires.sits) in
    record { sits = stood_first g.P.Meld.meld name c.self.inside.own.own pass c.begin.result (c.begin.ensures.stands false name pass c.requires.of fits) }
