use Rattle.std.proofs.Common.{[]}
use Rattle.ulfm_model.proofs.Stable.{fits_stays}
use Rattle.ulfm_words.proofs.Trails.{did_prefix}
use Rattle.ulfm_wait.proofs.Kept.{member_after}
use Rattle.ulfm_wait.proofs.member.Member.learn.Goals as goal

pub invariant_of-self : goal.invariant_of-self
invariant_of-self g c =
    let own = c.self.inside.rank.own in
    let before = (g.W.Words.sight c.self.inside.pass).seen in
    let after = g.W.Words.sight c.learn.new.pass in
    let begins = did_prefix g.W.Words.alone [] before after.seen c.learn.ensures.did in
    member_after g.P.Meld.meld g.P.Packed.pack c.deref.result.now _ own _ before after c.deref.ensures c.self.invariant.fits
    (fits_stays g.P.Meld.meld c.deref.result.now.limits before after.seen own begins c.learn.ensures.of.legal) c.learn.ensures.of
