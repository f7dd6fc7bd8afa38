use Rattle.std.proofs.Common.{sym}
use Rattle.ulfm_words.specs.Steps.{over}
use Rattle.ulfm_comm.proofs.AmongOthers.{waits_none}
use Rattle.ulfm_comm_tests.proofs.Seats.{call_waits}
use Rattle.ulfm_comm_tests.proofs.tests.play.Player.revoke.Goals as goal

pub returns-in-Some-clause-waits : goal.returns-in-Some-clause-waits
returns-in-Some-clause-waits g c = waits_none (g.W.Words.sight c.args.pass.now)

pub revoke-requires-clause-fits : goal.revoke-requires-clause-fits
revoke-requires-clause-fits g c = rw c.in-None.is at (rw (sym c.self.view_is) at c.requires.sits)

pub returns-in-None-clause-waits : goal.returns-in-None-clause-waits
returns-in-None-clause-waits g c =
    call_waits g.P.Meld.meld (over g.P.Packed.pack c.args.world.now) g.W.Words.alone _ c.self.inside.own.own (g.W.Words.sight c.args.pass.now) _ c.revoke.new.self.own (g.W.Words.sight c.revoke.new.pass) c.requires.of.legal c.revoke.ensures.calls

pub returns-in-None-clause-sits : goal.returns-in-None-clause-sits
returns-in-None-clause-sits g c = rw c.in-None.is c.revoke.ensures.calls.linearizes.fits
