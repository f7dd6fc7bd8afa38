use Rattle.std.proofs.Common.{rules, inr}
use Rattle.ulfm.proofs.program.run_replay.Goals as goal

pub returns-in-Err-clause-replayed : goal.returns-in-Err-clause-replayed
returns-in-Err-clause-replayed g c = inr (c.tell_unaudited.ensures, search rules)
