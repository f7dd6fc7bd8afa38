use Rattle.std.proofs.Common.{ap, false}
use Rattle.ulfm_words.specs.Steps.{over}
use Rattle.ulfm_model.specs.Records.{Record}
use Rattle.ulfm_comm.proofs.Agreement.{round_agrees, round_shrinks}
use Rattle.ulfm_comm.proofs.rank.LocalState.decided.Goals as goal

pub shrunk-requires-clause-read : goal.shrunk-requires-clause-read
shrunk-requires-clause-read g c =
    let r = c.requires.read in (
      r.0,
      r.1,
      round_shrinks g.P.Meld.meld false (over g.P.Packed.pack (g.W.Words.name c.args.words.now)) c.args.asked.now c.args.shrinks c.args.round c.args.all r.0 r.1
          c.args.self.now (g.W.Words.sight c.args.pass.now) r.2 c.if-shrinks.true,
    )

pub returns-then-shrinks-clause-turns : goal.returns-then-shrinks-clause-turns
returns-then-shrinks-clause-turns g c = λ alone old before r.
    c.shrunk.ensures.turns alone old before
    (round_shrinks g.P.Meld.meld alone (over g.P.Packed.pack (g.W.Words.name c.args.words.now)) c.args.asked.now c.args.shrinks c.args.round c.args.all old before
    c.args.self.now (g.W.Words.sight c.args.pass.now) r c.if-shrinks.true)

pub returns-clause-sees : goal.returns-clause-sees
returns-clause-sees g c = ap (λ (w : Record). w.seen) c.agreed.ensures.closes

pub returns-clause-turns : goal.returns-clause-turns
returns-clause-turns g c = λ alone old before r.
    round_agrees g.P.Meld.meld alone (over g.P.Packed.pack (g.W.Words.name c.args.words.now)) c.args.asked.now c.args.shrinks c.args.round c.args.all old before c.args.self.now
    (g.W.Words.sight c.args.pass.now) c.requires.of r c.if-shrinks.false
    c.comm_of.result c.comm_of.ensures c.agreed.new.self c.agreed.ensures.closes c.agreed.result c.agreed.ensures.reply
