use Rattle.std.proofs.Common.{arith}
use Rattle.ulfm_words.specs.Steps.{over}
use Rattle.ulfm_comm_tests.specs.Playing.{Plays}
use Rattle.ulfm_comm_tests.proofs.Seats.{each_at, play_next}
use Rattle.ulfm_comm_tests.proofs.tests.play.Play.step.Goals as goal

pub step-requires-clause-sits : goal.step-requires-clause-sits
step-requires-clause-sits g c =
    rw c.index_mut.ensures.value
    (each_at (Plays g.P.Meld.meld (over g.P.Packed.pack c.self.inside.world) (g.W.Words.sight c.self.inside.pass)) c.self.inside.seats.items c.args.rank _ c.self.invariant.sits
    (omega (arith, c.if-rank-len.false, c.len.ensures)))

pub invariant_of-self : goal.invariant_of-self
invariant_of-self g c =
    let name = over g.P.Packed.pack c.self.inside.world in
    play_next g.P.Meld.meld name (g.W.Words.sight c.self.inside.pass) (g.W.Words.sight c.step.new.pass) c.self.inside.seats.items c.args.rank c.step.new.self c.self.invariant c.step.ensures.of c.step.ensures.waits c.step.ensures.sits
