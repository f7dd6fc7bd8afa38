use Rattle.ulfm_model.proofs.LeftRuns.{fail_fits}
use Rattle.ulfm_wait.proofs.Kept.{member_after}
use Rattle.ulfm_wait.proofs.member.Member.fail.Goals as goal

pub invariant_of-self : goal.invariant_of-self
invariant_of-self g c =
    let own = c.self.inside.rank.own in
    member_after g.P.Meld.meld g.P.Packed.pack c.deref.result.now _ own _ (g.W.Words.sight c.self.inside.pass).seen (g.W.Words.sight c.fail.new.pass) c.deref.ensures c.self.invariant.fits
    (fail_fits g.P.Meld.meld c.deref.result.now.limits g.W.Words.alone _ _ own c.args.rank _ c.fail.ensures.run) c.fail.ensures.of
