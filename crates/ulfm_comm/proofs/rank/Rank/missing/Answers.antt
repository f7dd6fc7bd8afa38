use Rattle.std.proofs.Common.{◌≡◌, [], Some, ap, sym, ◌∙◌, subst}
use Rattle.ulfm_words.specs.Steps.{IsView, Name, view_of}
use Rattle.ulfm_model.specs.{History.{IsLegal}, Records.{Held, held_at}}
use Rattle.ulfm_model.proofs.Stable.{fits_stays}
use Rattle.ulfm_words.proofs.Trails.{did_prefix}
use Rattle.ulfm_steps.specs.Rounds.{IsRoundOf}
use Rattle.ulfm_comm.specs.{Counts.{Ranked}, Misses.{round_in}}
use Rattle.ulfm_comm.proofs.Misses.{round_open}
use Rattle.ulfm_comm.proofs.rank.Rank.missing.Goals as goal

pub put_missing-requires-clause-round : goal.put_missing-requires-clause-round
put_missing-requires-clause-round g c =
    let x = c.in-Some.x.now in
    let request = c.in-Some-request.request in
    let own = c.args.self.now.own in
    let limits = c.args.world.now.limits in
    let seen = (g.W.Words.sight c.args.pass.now).seen in
    let held : held_at own c.args.comm ≡ Some x = sym (ap (λ (r : Ranked). held_at r.own c.args.comm) c.self.view_is) ∙ c.in-Some.ensures.held in
    let open_is : x.request ≡ Some request = sym (ap (λ (y : Held). y.request) c.x.view_is) ∙ c.in-Some-request.is in
    let group : c.deref.result.now ≡ x.group = c.deref.ensures.value ∙ ap (λ (y : Held). y.group) c.x.view_is in
    let round = round_open g.P.Meld.meld limits seen own c.args.comm request x c.requires.of.legal c.requires.fits held open_is in
    subst (λ (n : Name). IsRoundOf n.limits seen c.args.comm (round_in request) c.deref.result.now) (sym c.world.view_is)
    (subst (λ w. IsRoundOf limits seen c.args.comm (round_in request) w) (sym group) round)

pub returns-clause-at : goal.returns-clause-at
returns-clause-at g c =
    let meld = g.P.Meld.meld in
    let before = (g.W.Words.sight c.args.pass.now).seen in
    let after = (g.W.Words.sight c.put_missing.new.pass).seen in
    let goes = c.put_missing.ensures.goes in
    let legal = subst (λ (n : Name). IsLegal meld n.limits after) c.world.view_is goes.of.legal in
    record {
      of = subst (λ (n : Name). IsView meld (view_of g.P.Packed.pack n (g.W.Words.sight c.put_missing.new.pass))) c.world.view_is goes.of;
      fits = fits_stays meld c.args.world.now.limits before after c.args.self.now.own (did_prefix g.W.Words.alone [] before after goes.did) legal c.requires.fits;
    }
