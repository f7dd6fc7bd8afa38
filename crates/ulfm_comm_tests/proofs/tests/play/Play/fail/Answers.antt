use Rattle.ulfm_words.specs.Steps.{over}
use Rattle.ulfm_comm_tests.proofs.Seats.{play_failed}
use Rattle.ulfm_comm_tests.proofs.tests.play.Play.fail.Goals as goal

pub invariant_of-self : goal.invariant_of-self
invariant_of-self g c =
    let name = over g.P.Packed.pack c.self.inside.world in
    play_failed g.P.Meld.meld name (g.W.Words.sight c.self.inside.pass) (g.W.Words.sight c.fail.new.pass) c.self.inside.seats.items g.W.Words.alone c.args.rank _ c.self.invariant c.fail.ensures
