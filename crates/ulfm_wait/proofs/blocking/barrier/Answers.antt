use Rattle.ulfm_model.specs.declared.call.Call.TheVariants.{Barrier}
use Rattle.ulfm_wait.proofs.Waiting.{member_comes}
use Rattle.ulfm_wait.proofs.blocking.barrier.Goals as goal

pub returns : goal.returns
returns g c =
    member_comes g.P.Meld.meld g.P.Packed.pack g.W.Words.alone c.args.comm (Barrier c.args.member.now.own.number c.args.comm) c.args.member.now c.ibarrier.new.self c.poll_started.new.member
    c.ibarrier.result c.poll_started.result c.ibarrier.ensures c.poll_started.ensures
