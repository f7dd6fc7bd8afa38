use Rattle.std.proofs.Common.{sym, ◌∙◌, arith}
use Rattle.ulfm_steps.proofs.blocks.next_member.Goals as goal

pub returns-then-is_member : goal.returns-then-is_member
returns-then-is_member c =
    record { onward = c.loop-at.auto.at; within = omega (arith, c.loop-at-test.true); none_between = c.loop-at.invariant.none; member = λ lt. sym c.is_member.ensures ∙ c.if-is_member.true }
