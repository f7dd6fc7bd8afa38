use Rattle.std.proofs.Common.{length, ◌≤◌}
use Rattle.ulfm_devices.proofs.memory.filled.Given as goal

abbrev pub invariant-loop : goal.invariant-loop
invariant-loop l = length l.blocks.items ≤ l.counter
