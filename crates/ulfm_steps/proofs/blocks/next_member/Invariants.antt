use Rattle.std.proofs.Common.{◌≡◌}
use Rattle.ulfm_steps.specs.Marks.{members_in}
use Rattle.ulfm_steps.proofs.blocks.next_member.Given as goal

abbrev pub invariant-loop-at : goal.invariant-loop-at
invariant-loop-at l = record {
  none : members_in l.group l.declared l.at ≡ members_in l.group l.declared l.start;
}
