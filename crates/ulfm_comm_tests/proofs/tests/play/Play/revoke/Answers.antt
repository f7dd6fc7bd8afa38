use Rattle.std.proofs.Common.{arith}
use Rattle.ulfm_words.specs.Steps.{over}
use Rattle.ulfm_comm_tests.specs.Playing.{Plays}
use Rattle.ulfm_comm_tests.proofs.Seats.{each_at, play_next}
use Rattle.ulfm_comm_tests.proofs.tests.play.Play.revoke.Goals as goal

pub invariant_of-self : goal.invariant_of-self
invariant_of-self g c =
    let name = over g.P.Packed.pack c.self.inside.world in
    play_next g.P.Meld.meld name (g.W.Words.sight c.self.inside.pass) (g.W.Words.sight c.revoke.new.pass) c.self.inside.seats.items c.args.rank c.revoke.new.self c.self.invariant c.revoke.ensures.of c.revoke.ensures.waits c.revoke.ensures.sits

pub revoke-requires-clause-sits : goal.revoke-requires-clause-sits
revoke-requires-clause-sits g c =
    let name = over g.P.Packed.pack c.self.inside.world in
    rw c.index_mut.ensures.value
    (each_at (Plays g.P.Meld.meld name (g.W.Words.sight c.self.inside.pass)) c.self.inside.seats.items c.args.rank _ c.self.invariant.sits (omega (arith, c.if-rank-len.false, c.len.ensures)))
