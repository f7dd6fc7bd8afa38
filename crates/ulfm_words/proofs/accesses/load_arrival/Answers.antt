use Rattle.std.proofs.Common.{rules}
use Rattle.ulfm_words.proofs.accesses.load_arrival.Goals as goal

pub returns-clause-arrived : goal.returns-clause-arrived
returns-clause-arrived g c = search rules steps 100000
