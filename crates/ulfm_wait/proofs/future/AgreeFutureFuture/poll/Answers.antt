use Rattle.std.proofs.Common.{sym, ◌∙◌}
use Rattle.ulfm_wait.specs.Turns.{member_of}
use Rattle.ulfm_wait.proofs.Turning.{IsPending, on_pending, opened_ends, opened_pends}
use Rattle.ulfm_wait.proofs.future.AgreeFutureFuture.poll.Given.{Over}
use Rattle.ulfm_wait.proofs.future.AgreeFutureFuture.poll.Goals as goal

-- what holds after a pending turn
after : (g : Over) (c : goal.After-yield_now-then-is_pending g)
    → IsPending g.P.Meld.meld g.P.Packed.pack g.W.Words.alone c.self.inside.comm c.self.inside.value c.args.self.now
    (member_of c.self.inside.world.now c.step-reply.new.rank (g.W.Words.sight c.step-reply.new.pass))
after g c =
    let name = c.self.inside.world.now in
    opened_pends g.P.Meld.meld g.P.Packed.pack g.W.Words.alone c.self.inside.comm c.self.inside.value c.self.inside.held
    (λ s. member_of name s.1 (g.W.Words.sight s.0)) (c.in-Some.pass, c.in-Some.rank) c.self.inside.started c.args.self.now
    (member_of name c.step-reply.new.rank (g.W.Words.sight c.step-reply.new.pass)) c.step-reply.result c.self.view_is c.self.invariant
    (sym c.take.ensures.value ∙ c.in-Some.is) (c.is_pending.ensures.yes c.if-is_pending.true) c.step-reply.ensures

pub invariant_of-self-then-is_pending : goal.invariant_of-self-then-is_pending
invariant_of-self-then-is_pending g c = (after g c).way

pub returns-then-is_pending-clause-pends : goal.returns-then-is_pending-clause-pends
returns-then-is_pending-clause-pends g c = on_pending c.yield_now-then-is_pending.result c.yield_now-then-is_pending.ensures.pending (after g c).pends

pub returns-then-is_pending-clause-same : goal.returns-then-is_pending-clause-same
returns-then-is_pending-clause-same g c =
    on_pending c.yield_now-then-is_pending.result c.yield_now-then-is_pending.ensures.pending
    (λ out gives. (after g c).same out.2 out.1 (g.W.Words.sight out.0) gives)

pub returns-clause-value : goal.returns-clause-value
returns-clause-value g c =
    let name = c.self.inside.world.now in
    (opened_ends g.P.Meld.meld g.P.Packed.pack g.W.Words.alone c.self.inside.comm c.self.inside.value c.self.inside.held
    (λ s. member_of name s.1 (g.W.Words.sight s.0)) (c.in-Some.pass, c.in-Some.rank) c.self.inside.started c.args.self.now
    c.step-reply.result c.step-reply.new.rank (g.W.Words.sight c.step-reply.new.pass) c.self.view_is
    (sym c.take.ensures.value ∙ c.in-Some.is) (c.is_pending.ensures.no c.if-is_pending.false) c.step-reply.ensures).gives
