use Rattle.std.proofs.Common.{◌≡◌, ◌<◌, refl, ap, sym, subst, arith}
use Rattle.ulfm_model.specs.declared.reply.Reply.{Reply}
use Rattle.ulfm_words.specs.Steps.{Name, over}
use Rattle.ulfm_words.specs.Steps.{view_at, over}
use Rattle.ulfm_steps.specs.{Appends.{MayAppend}}
use Rattle.ulfm_steps.proofs.Coming.{may_fail}
use Rattle.ulfm_comm.specs.Fails.{Fails}
use Rattle.ulfm_comm.proofs.Failing.{fail_found, fail_full, fail_missing, fail_won}
use Rattle.ulfm_comm.proofs.world.World.fail.Goals as goal
use Rattle.ulfm_comm.proofs.world.World.fail.Goals.{After-finish}

pub returns-then-rank-limits : goal.returns-then-rank-limits
returns-then-rank-limits g c =
    let pass = g.W.Words.sight c.args.pass.now in
    let ranks : c.limits.result.ranks ≡ (g.W.Words.name c.self.inside.words).limits.ranks = ap (λ l. l.ranks) c.limits.ensures.limits in
    let limits = ap (λ (n : Name). n.limits.ranks) c.self.view_is in
    fail_missing g.P.Meld.meld g.W.Words.alone (over g.P.Packed.pack c.args.self.now) c.args.rank pass pass c.requires.of (omega (arith, limits, ranks, c.if-rank-limits.true)) refl

pub finish-requires-clause-may : goal.finish-requires-clause-may
finish-requires-clause-may g c =
    let limits = (g.W.Words.name c.self.inside.words).limits in
    let seen = (g.W.Words.sight c.args.pass.now).seen in
    let ranks : c.limits.result.ranks ≡ limits.ranks = ap (λ l. l.ranks) c.limits.ensures.limits in
    let below : c.args.rank < limits.ranks = omega (arith, c.if-rank-limits.false) in
    subst (λ a. MayAppend g.P.Meld.meld limits seen a.item) (sym c.new-append.ensures) (may_fail g.P.Meld.meld limits seen c.args.rank below)

-- the world has the rank
below : (g : _) (c : After-finish g) → c.args.rank < (g.W.Words.name c.self.inside.words).limits.ranks
below g c =
    let ranks : c.limits.result.ranks ≡ (g.W.Words.name c.self.inside.words).limits.ranks = ap (λ l. l.ranks) c.limits.ensures.limits in
    omega (arith, ranks, c.if-rank-limits.false)

-- the declaration, by the name of the world
named : (g : _) (c : After-finish g) {reply : Reply g.row.P.Denot}
    → Fails g.P.Meld.meld g.W.Words.alone c.args.rank (view_at (over g.P.Packed.pack (g.W.Words.name c.self.inside.words)) (g.W.Words.sight c.args.pass.now)) reply
    (view_at (over g.P.Packed.pack (g.W.Words.name c.self.inside.words)) (g.W.Words.sight c.finish.new.pass))
    → Fails g.P.Meld.meld g.W.Words.alone c.args.rank (view_at (over g.P.Packed.pack c.args.self.now) (g.W.Words.sight c.args.pass.now)) reply
    (view_at (over g.P.Packed.pack c.args.self.now) (g.W.Words.sight c.finish.new.pass))
named g c {reply} = subst (λ (n : Name). Fails g.P.Meld.meld g.W.Words.alone c.args.rank (view_at (over g.P.Packed.pack n) (g.W.Words.sight c.args.pass.now)) reply
    (view_at (over g.P.Packed.pack n) (g.W.Words.sight c.finish.new.pass))) c.self.view_is

pub returns-in-Won : goal.returns-in-Won
returns-in-Won g c =
    let here = (goal.at.returns-in-Won g c).After-finish in
    named g here (fail_won g.P.Meld.meld g.W.Words.alone (over g.P.Packed.pack (g.W.Words.name c.self.inside.words)) c.args.rank (g.W.Words.sight c.args.pass.now)
    (g.W.Words.sight c.finish.new.pass) c.in-Won.field-0 (below g here) (rw c.new-append.ensures at c.in-Won.ensures))

pub returns-in-Found : goal.returns-in-Found
returns-in-Found g c =
    let here = (goal.at.returns-in-Found g c).After-finish in
    named g here (fail_found g.P.Meld.meld g.W.Words.alone (over g.P.Packed.pack (g.W.Words.name c.self.inside.words)) c.args.rank (g.W.Words.sight c.args.pass.now)
    (g.W.Words.sight c.finish.new.pass) c.in-Found.field-0 (below g here) (rw c.new-append.ensures at c.in-Found.ensures))

pub returns-in-Full : goal.returns-in-Full
returns-in-Full g c =
    let here = (goal.at.returns-in-Full g c).After-finish in
    named g here (fail_full g.P.Meld.meld g.W.Words.alone (over g.P.Packed.pack (g.W.Words.name c.self.inside.words)) c.args.rank (g.W.Words.sight c.args.pass.now)
    (g.W.Words.sight c.finish.new.pass) (below g here) (rw c.new-append.ensures at c.in-Full.ensures))
