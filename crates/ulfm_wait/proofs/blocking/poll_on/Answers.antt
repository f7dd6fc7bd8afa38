use Rattle.std.proofs.Common.{Ok, Err, subst}
use Rattle.ulfm_wait.specs.Members.{MemberPolls, setting_of}
use Rattle.ulfm_wait.proofs.Waiting.{is_answer, member_answered, member_pends}
use Rattle.ulfm_wait.proofs.blocking.poll_on.Goals as goal

pub loop-init : goal.loop-init
loop-init g c result new polls = polls

pub loop-preserved : goal.loop-preserved
loop-preserved g c result new polls =
    let pends = subst (λ r. MemberPolls (setting_of g.P.Meld.meld g.P.Packed.pack g.W.Words.alone) c.args.comm c.loop.member r c.poll.new.self) c.in-Ok.is c.poll.ensures in
    let pending = subst (λ r. MemberPolls (setting_of g.P.Meld.meld g.P.Packed.pack g.W.Words.alone) c.args.comm c.loop.member (Ok r) c.poll.new.self) c.in-Pending.is pends in
    c.loop.invariant result new (member_pends g.P.Meld.meld g.P.Packed.pack g.W.Words.alone c.args.comm c.loop.member c.poll.new.self new result pending polls)

pub returns-in_default : goal.returns-in_default
returns-in_default g c =
    let polls = subst (λ r. MemberPolls (setting_of g.P.Meld.meld g.P.Packed.pack g.W.Words.alone) c.args.comm c.loop.member r c.poll.new.self) c.in-Ok.is c.poll.ensures in
    c.loop.invariant (Ok c.in-Ok.reply) c.poll.new.self
    (member_answered g.P.Meld.meld g.P.Packed.pack g.W.Words.alone c.args.comm c.loop.member c.poll.new.self (Ok c.in-Ok.reply) polls (is_answer c.in-Ok.reply c.in_default.not-Pending))

pub returns-in-Err : goal.returns-in-Err
returns-in-Err g c =
    let polls = subst (λ r. MemberPolls (setting_of g.P.Meld.meld g.P.Packed.pack g.W.Words.alone) c.args.comm c.loop.member r c.poll.new.self) c.in-Err.is c.poll.ensures in
    c.loop.invariant (Err c.in-Err.refusal) c.poll.new.self
    (member_answered g.P.Meld.meld g.P.Packed.pack g.W.Words.alone c.args.comm c.loop.member c.poll.new.self (Err c.in-Err.refusal) polls tt)
