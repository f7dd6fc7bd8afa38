use Rattle.std.proofs.Common.{subst}
use Rattle.ulfm_words.specs.Steps.{Name, over}
use Rattle.ulfm_words.specs.Steps.{Learns, view_at}
use Rattle.ulfm_comm.proofs.world.World.learn.Goals as goal

pub returns : goal.returns
returns g c =
    let before = g.W.Words.sight c.args.pass.now in
    let after = g.W.Words.sight c.learn.new.pass in
    subst (λ (n : Name). Learns g.P.Meld.meld g.W.Words.alone (g.W.OpenWords.heard c.args.told.now) (view_at (over g.P.Packed.pack n) before) (view_at (over g.P.Packed.pack n) after)) c.self.view_is
    c.learn.ensures
