use Rattle.std.proofs.Common.{arith}
use Rattle.ulfm_model.specs.History.{has}
use Rattle.ulfm_model.proofs.Lists.{length-filter-le}
use Rattle.ulfm_steps.proofs.group.make_room.Goals as goal

pub returns-then-ranks-capacity-clause-room : goal.returns-then-ranks-capacity-clause-room
returns-then-ranks-capacity-clause-room g c =
    let few = length-filter-le (has c.args.group.now) c.args.ranks.now in
    omega (arith, few, c.if-ranks-capacity.true, c.capacity.ensures)
