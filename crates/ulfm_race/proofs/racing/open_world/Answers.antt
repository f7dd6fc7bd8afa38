use Rattle.ulfm_race.proofs.Gathering.{new_ranks}
use Rattle.ulfm_race.proofs.racing.open_world.Goals as goal

pub returns-in-Ok-open-clause-all : goal.returns-in-Ok-open-clause-all
returns-in-Ok-open-clause-all c =
    (new_ranks c.args.plan c.in-Ok.words.limits c.in-Ok.ensures.opened c.in-Ok-open.opened.1.items c.in-Ok-open.ensures.ranks c.in-Ok-open.ensures.fits).1
