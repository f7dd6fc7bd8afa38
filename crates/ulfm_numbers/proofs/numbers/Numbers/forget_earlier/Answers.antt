use Rattle.std.proofs.Common.{map}
use Rattle.ulfm_numbers.specs.Failed.{members_of}
use Rattle.ulfm_numbers.proofs.Lasting.{by_round_fewer, done_fewer}
use Rattle.ulfm_numbers.proofs.numbers.Numbers.forget_earlier.Goals as goal

pub invariant_of-self-clause-rounds_done : goal.invariant_of-self-clause-rounds_done
invariant_of-self-clause-rounds_done g c =
    let old = c.args.self.now in
    done_fewer g.P.Meld.meld old.rounds c.remove.new.self old.slots old.failures.items (map members_of old.groups.items) _ old.rounds_done c.remove.ensures.updates.0

pub invariant_of-self-clause-rounds_by_round : goal.invariant_of-self-clause-rounds_by_round
invariant_of-self-clause-rounds_by_round g c =
    let old = c.args.self.now in
    by_round_fewer old.rounds c.remove.new.self _ old.rounds_by_round c.remove.ensures.updates.0
