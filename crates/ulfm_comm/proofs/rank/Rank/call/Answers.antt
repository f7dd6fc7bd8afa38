use Rattle.std.proofs.Common.{arith, refl, subst, sym}
use Rattle.ulfm_words.specs.Steps.{over}
use Rattle.ulfm_words.specs.Steps.{Name}
use Rattle.ulfm_model.specs.Records.{Fits}
use Rattle.ulfm_comm.specs.{Counts.{MakesSteps, Ranked}, Polls.{PendsIn}}
use Rattle.ulfm_comm.proofs.Counts.{made_exact, made_small}
use Rattle.ulfm_comm.proofs.rank.Rank.call.Goals as goal
use Rattle.ulfm_comm.specs.Local.{local}
use Rattle.ulfm_words.specs.Steps.{IsView, view_at}

pub overflow_cast-self : goal.overflow_cast-self
overflow_cast-self g c =
    let name = over g.P.Packed.pack (g.W.Words.name c.world.inside.words) in
    let before = g.W.Words.sight c.args.pass.now in
    let of = subst (λ (n : Name). IsView g.P.Meld.meld (view_at (over g.P.Packed.pack n) before)) (sym c.world.view_is) c.requires.of in
    let fits = subst (λ (r : Ranked). Fits g.P.Meld.meld name.limits before.seen r.own) (sym c.self.view_is)
    (subst (λ (n : Name). Fits g.P.Meld.meld n.limits before.seen c.args.self.now.own) (sym c.world.view_is) c.requires.fits) in
    let small = made_small g.P.Meld.meld g.W.Words.alone name c.args.asked c.self.inside.own before c.call-reply.result c.call-reply.new.self
    (g.W.Words.sight c.call-reply.new.pass) of fits c.call-reply.ensures.ends c.call-reply.ensures.steps.steps c.steps_made-before.result
    c.steps_made-after.result _ c.steps_made-before.ensures c.steps_made-after.ensures refl in
    omega (arith, small)

pub returns-clause-pending : goal.returns-clause-pending
returns-clause-pending g c =
    let name = over g.P.Packed.pack (g.W.Words.name c.world.inside.words) in
    let before = g.W.Words.sight c.args.pass.now in
    let after = g.W.Words.sight c.call-reply.new.pass in
    let own = c.args.self.now.own in
    let new = c.call-reply.new.self in
    let reply = c.call-reply.result in
    subst (λ (n : Name). PendsIn g.P.Meld.meld g.W.Words.alone c.args.asked (local own (view_at (over g.P.Packed.pack n) before)) reply (local new (view_at (over g.P.Packed.pack n) after)))
    c.world.view_is
    (subst (λ (r : Ranked). PendsIn g.P.Meld.meld g.W.Words.alone c.args.asked (local r.own (view_at name before)) reply (local new (view_at name after)))
    c.self.view_is c.call-reply.ensures.pending)

pub returns-clause-steps : goal.returns-clause-steps
returns-clause-steps g c =
    let name = over g.P.Packed.pack (g.W.Words.name c.world.inside.words) in
    let before = g.W.Words.sight c.args.pass.now in
    let after = g.W.Words.sight c.call-reply.new.pass in
    let new = c.call-reply.new.self in
    let of = subst (λ (n : Name). IsView g.P.Meld.meld (view_at (over g.P.Packed.pack n) before)) (sym c.world.view_is) c.requires.of in
    let fits = subst (λ (r : Ranked). Fits g.P.Meld.meld name.limits before.seen r.own) (sym c.self.view_is)
    (subst (λ (n : Name). Fits g.P.Meld.meld n.limits before.seen c.args.self.now.own) (sym c.world.view_is) c.requires.fits) in
    record {
      made =
          subst (λ (n : Name). MakesSteps n.limits c.args.asked c.args.self.now.own before new after) c.world.view_is
          (subst (λ (r : Ranked). MakesSteps name.limits c.args.asked r.own before new after) c.self.view_is c.call-reply.ensures.steps);
      last =
          made_exact g.P.Meld.meld g.W.Words.alone name c.args.asked c.self.inside.own before c.call-reply.result new after of fits
          c.call-reply.ensures.ends c.call-reply.ensures.steps.steps c.steps_made-before.result c.steps_made-after.result _
          c.steps_made-before.ensures c.steps_made-after.ensures refl;
    }
