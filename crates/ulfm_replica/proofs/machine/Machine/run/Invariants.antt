use Rattle.std.specs.Prelude.{◌≡◌, None}
use Rattle.ulfm_replica.specs.Replicas.{KeepsCall, left_of, rules}
use Rattle.ulfm_replica.proofs.machine.Machine.run.Given as goal

abbrev pub invariant-loop-machine : goal.invariant-loop-machine
invariant-loop-machine g l =
    record {
      keeps : KeepsCall (rules g.P.Meld.meld g.P.Packed.pack) l.initial.machine.at l.machine.at;
      same : l.initial.machine.at.call ≡ None → l.machine.at ≡ l.initial.machine.at;
      seen : l.machine.at.pass.seen ≡ l.initial.machine.at.pass.seen;
      fed : l.machine.fed ≡ l.initial.machine.fed;
    }

abbrev pub decreases-loop-machine : goal.decreases-loop-machine
decreases-loop-machine g l = left_of l.machine.at.words.limits l.machine.at.own l.machine.at.call
