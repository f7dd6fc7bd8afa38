use Rattle.std.proofs.Common.{arith, rules}
use Rattle.std.proofs.lemmas.Grind.{common_steps}
use Rattle.ulfm_intruder.proofs.read_round.ReadRound.finish.Goals as goal

pub returns-then-not-advance-clause-read : goal.returns-then-not-advance-clause-read
returns-then-not-advance-clause-read g c = search rules steps 400000

pub returns-clause-goes : goal.returns-clause-goes
returns-clause-goes g c = grind (arith, common_steps)
