use Rattle.std.proofs.Common.{IfOk, subst}
use Rattle.ulfm_race.specs.Races.{IsHeard}
use Rattle.ulfm_race.proofs.gather.Gathered.take_in.Goals as goal

pub returns-in-Ok-clause-takes : goal.returns-in-Ok-clause-takes
returns-in-Ok-clause-takes c h r heard was =
    c.add.ensures.adds h r (subst (λ o. IfOk o (λ x. IsHeard c.args.self.now.plan h r x.replies.items x.made x.group.items)) c.in-Ok.is heard) was
