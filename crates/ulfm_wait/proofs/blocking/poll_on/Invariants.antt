use Rattle.std.proofs.Common.{Result}
use Rattle.ulfm_model.specs.declared.refusal.Refusal.{Refusal}
use Rattle.ulfm_comm.specs.declared.calls.polled.Polled.{Polled}
use Rattle.ulfm_wait.specs.Members.{Membership, setting_of}
use Rattle.ulfm_wait.specs.Waits.{MemberPollsOn}
use Rattle.ulfm_wait.proofs.blocking.poll_on.Given as goal

abbrev pub invariant-loop : goal.invariant-loop
invariant-loop g l =
    (result : Result (Polled _) Refusal) (new : Membership _) → MemberPollsOn (setting_of g.P.Meld.meld g.P.Packed.pack g.W.Words.alone) l.fn.comm l.member result new
    → MemberPollsOn (setting_of g.P.Meld.meld g.P.Packed.pack g.W.Words.alone) l.fn.comm l.fn.member result new
