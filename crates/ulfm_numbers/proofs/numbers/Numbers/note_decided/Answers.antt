use Rattle.std.proofs.Common.{map, rules}
use Rattle.ulfm_numbers.specs.Failed.{members_of}
use Rattle.ulfm_numbers.proofs.Lasting.{by_round_put, done_put}
use Rattle.ulfm_numbers.proofs.numbers.Numbers.note_decided.Goals as goal

pub invariant_of-self-clause-rounds_done : goal.invariant_of-self-clause-rounds_done
invariant_of-self-clause-rounds_done g c =
    let old = c.args.self.now in
    done_put g.P.Meld.meld old.rounds c.insert.new.self old.slots old.failures.items (map members_of old.groups.items) c.args.comm c.args.round c.in-Some.done c.insert.result
    old.rounds_done (rw c.in-Some.is at c.in_ok-done.ensures) c.insert.ensures.updates c.insert.ensures.err

pub invariant_of-self-clause-rounds_by_round : goal.invariant_of-self-clause-rounds_by_round
invariant_of-self-clause-rounds_by_round g c =
    let old = c.args.self.now in
    by_round_put old.rounds c.insert.new.self c.args.comm c.args.round c.in-Some.done c.insert.result old.rounds_by_round c.insert.ensures.updates c.insert.ensures.err

pub returns : goal.returns
returns g c = λ ranks h tells. c.forget_earlier.ensures ranks h (search rules)
