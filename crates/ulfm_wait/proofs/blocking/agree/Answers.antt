use Rattle.ulfm_model.specs.declared.call.Call.TheVariants.{Agree}
use Rattle.ulfm_wait.proofs.Waiting.{member_comes, member_tells}
use Rattle.ulfm_wait.proofs.blocking.agree.Goals as goal

pub returns : goal.returns
returns g c =
    let waits = member_comes g.P.Meld.meld g.P.Packed.pack g.W.Words.alone c.args.comm (Agree c.args.member.now.own.number c.args.comm c.args.value) c.args.member.now c.iagree.new.self c.poll_started.new.member
    c.iagree.result c.poll_started.result c.iagree.ensures c.poll_started.ensures in
    record { waits = waits; tells = member_tells g.P.Meld.meld g.P.Packed.pack g.W.Words.alone c.args.comm c.args.value c.args.member.now c.poll_started.new.member c.poll_started.result waits }
