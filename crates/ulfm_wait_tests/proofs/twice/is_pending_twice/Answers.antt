use Rattle.std.proofs.Common.{false, refl}
use Rattle.ulfm_laws.specs.{Flags.{flag_meld}, declared.flag_and.FlagAnd.{FlagAnd}}
use Rattle.ulfm_wait.proofs.Turning.{polls_are_counted}
use Rattle.ulfm_wait_tests.proofs.twice.is_pending_twice.Goals as goal

pub returns : goal.returns
returns c both started m held =
    polls_are_counted flag_meld (λ (flag : FlagAnd). flag.bits) false 1 c.args.future.now c.poll-2.new.self m started held
    (c.poll.new.self, c.in-Pending.ensures.pends, (c.poll-2.new.self, c.in-Pending-poll.ensures.pends, refl))
