use Rattle.ulfm_wait.specs.Turns.{member_of}
use Rattle.ulfm_wait.proofs.Waiting.{member_tells}
use Rattle.ulfm_wait.proofs.future.AgreeFuture.new.Goals as goal

pub returns-clause-tells : goal.returns-clause-tells
returns-clause-tells g c out gives =
    let name = c.args.world.now in
    member_tells g.P.Meld.meld g.P.Packed.pack g.W.Words.alone c.args.comm c.args.value (member_of name c.args.rank (g.W.Words.sight c.args.pass)) (member_of name out.1 (g.W.Words.sight out.0)) out.2 gives

-- it holds the member that it was given, and has not started
pub invariant_of-result : goal.invariant_of-result
invariant_of-result g c = record { is = record { of = c.requires.of; fits = c.requires.fits }; given = λ started. absurd (cc started) }
