use Rattle.ulfm_replica.specs.Replays.{Feeds}
use Rattle.ulfm_replica.proofs.Logs.{goes_on}
use Rattle.ulfm_replica.proofs.replay.logs_go_on.Goals as goal

pub returns : goal.returns
returns g c = λ limits h mid new log e taken p q. goes_on (Feeds g.P.Meld.meld limits) log e taken h mid new p q
