use Rattle.std.proofs.Common.{refl, arith}
use Rattle.ulfm_comm.proofs.{Holding.{group_rises}, Starts.{known_few, offered_may, settles_is}}
use Rattle.ulfm_comm.proofs.rank.LocalState.contribute.Goals as goal

pub offered-requires-clause-rises : goal.offered-requires-clause-rises
offered-requires-clause-rises g c = group_rises g.P.Meld.meld (g.W.Words.name c.args.words.now).limits (g.W.Words.sight c.args.pass.now).seen c.args.self.now c.args.x.now.comm _ c.requires.fits c.requires.held

pub offered-requires-clause-few : goal.offered-requires-clause-few
offered-requires-clause-few g c =
    let few = known_few g.P.Meld.meld (g.W.Words.name c.args.words.now).limits (g.W.Words.sight c.args.pass.now).seen c.args.self.now c.args.x.now.comm _
    c.requires.fits c.requires.held c.requires.of.legal in
    let small = c.requires.of.may_open.in_range.ranks in
    omega (arith, few, small)

pub step-requires-clause-may : goal.step-requires-clause-may
step-requires-clause-may g c =
    let x = c.args.x.now in
    let may = offered_may g.P.Meld.meld (g.W.Words.name c.args.words.now).limits (g.W.Words.sight c.args.pass.now).seen c.args.self.now x c.requires.fits c.requires.held c.requires.room c.args.offer c.offered.result.given c.offered.ensures.given in
    rw (c.offered.ensures.comm, c.offered.ensures.round, c.offered.ensures.rank) may

pub returns-clause-settles : goal.returns-clause-settles
returns-clause-settles g c =
    let x = c.args.x.now in
    let own = c.args.self.now in
    let now = (g.W.Words.sight c.args.pass.now).seen in
    let after = (g.W.Words.sight c.step.new.pass).seen in
    let is = c.offered.ensures.given in
    settles_is g.W.Words.alone now after own x c.args.offer c.offered.result.given own.number c.step.result refl
    (rw (c.offered.ensures.comm, c.offered.ensures.round, c.offered.ensures.rank) at c.step.ensures.tries.outcome)
    (rw (c.offered.ensures.comm, c.offered.ensures.round, c.offered.ensures.rank) at c.step.ensures.stands)
    is.offer_is is.known is.acked
