use Rattle.std.proofs.Common.{arith, false}
use Rattle.std.proofs.lemmas.Grind.{common_steps}
use Rattle.ulfm_words.specs.Steps.{over}
use Rattle.ulfm_steps.proofs.Going.{went_on}
use Rattle.ulfm_steps.proofs.look.Look.advance.Goals as goal

pub loop-self-preserved : goal.loop-self-preserved
loop-self-preserved g c =
    let went = went_on g.P.Meld.meld g.W.Words.alone false (over g.P.Packed.pack (g.W.Words.name c.args.words.now)) _ (g.W.Words.sight c.args.pass.now) (g.W.Words.sight c.loop-self.pass) (g.W.Words.sight c.step.new.pass) c.loop-self.invariant.went c.step.ensures.goes in
    grind (arith, common_steps, went)
