use Rattle.std.proofs.Common.{refl, subst, sym}
use Rattle.ulfm_words.specs.Steps.{over}
use Rattle.ulfm_model.specs.declared.call.Call.TheVariants as call
use Rattle.ulfm_model.specs.declared.reply.Reply.TheVariants.{Started}
use Rattle.ulfm_comm.specs.Calls.{EndsReply, reply_of}
use Rattle.ulfm_comm.proofs.{CallRuns.{called_run}, Excludes.{start_excludes}, Typed.{ends_calls, typed_calls, typed_steps}}
use Rattle.ulfm_comm.proofs.rank.Rank.ishrink.Goals as goal
use Rattle.ulfm_comm.specs.Local.{local}
use Rattle.ulfm_words.specs.Steps.{view_at}

pub returns-clause-excludes : goal.returns-clause-excludes
returns-clause-excludes g c =
    let name = over g.P.Packed.pack c.args.world.now in
    let before = g.W.Words.sight c.args.pass.now in
    let after = g.W.Words.sight c.call.new.pass in
    let asked = call.Shrink c.number-rank.result c.args.comm in
    let ends = subst (λ r. EndsReply g.P.Meld.meld g.W.Words.alone asked (local c.args.self.now.own (view_at name before)) r (local c.call.new.self.own (view_at name after)))
    (sym c.started.ensures) c.call.ensures.ends in
    start_excludes g.P.Meld.meld name.limits g.W.Words.alone before.seen after.seen c.args.self.now.own c.number-rank.result c.args.comm c.started.result
    c.call.new.self.own c.requires.fits
    (called_run g.P.Meld.meld g.W.Words.alone name asked c.args.self.now.own before (reply_of (λ _. Started) c.started.result) c.call.new.self.own after
    (ends_calls (reply_of (λ _. Started) c.started.result) ends refl))

pub returns-clause-calls : goal.returns-clause-calls
returns-clause-calls g c = typed_calls (λ r. call.Shrink r c.args.comm) c.number-rank.ensures c.started.ensures c.call.ensures.ends refl

pub returns-clause-steps : goal.returns-clause-steps
returns-clause-steps g c = typed_steps (λ r. call.Shrink r c.args.comm) c.number-rank.ensures c.call.ensures.steps
