use Rattle.std.proofs.Common.{[]}
use Rattle.ulfm_replica.proofs.ReplayedWords.{one_history}
use Rattle.ulfm_replica.proofs.replay.logs_have_one_history.Goals as goal

pub returns : goal.returns
returns g c = λ limits log more seen further p q. one_history g.P.Meld.meld limits log more [] seen further p q
