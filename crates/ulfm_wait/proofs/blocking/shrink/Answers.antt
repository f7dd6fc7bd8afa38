use Rattle.ulfm_model.specs.declared.call.Call.TheVariants.{Shrink}
use Rattle.ulfm_wait.proofs.Waiting.{member_comes, member_made}
use Rattle.ulfm_wait.proofs.blocking.shrink.Goals as goal

pub returns : goal.returns
returns g c =
    let waits = member_comes g.P.Meld.meld g.P.Packed.pack g.W.Words.alone c.args.comm (Shrink c.args.member.now.own.number c.args.comm) c.args.member.now c.ishrink.new.self c.poll_started.new.member
    c.ishrink.result c.poll_started.result c.ishrink.ensures.calls c.poll_started.ensures in
    record { waits = waits; tells = member_made g.P.Meld.meld g.P.Packed.pack g.W.Words.alone c.args.comm c.args.member.now c.poll_started.new.member c.poll_started.result waits }
