use Rattle.std.proofs.Common.{rules, ◌≡◌, refl, sym, ap, subst, w32, to_z, of_z}
use Rattle.std.specs.Prelude.{Option, ℤ, pos}
use Rattle.ulfm_laws.specs.declared.flag_and.FlagAnd.{FlagAnd}
use Rattle.ulfm_model.specs.declared.{call.Call.{Call}, call.Call.TheVariants.{Agree}}
use Rattle.ulfm_replica.specs.Replicas.{Replicated}
use Rattle.ulfm_c.specs.Replicas.{PartyReplays, ReplicaAgrees, ReplicaBegins}
use Rattle.ulfm_c.specs.declared.party.Party.{Party}
use Rattle.ulfm_c.specs.declared.party.Party.TheVariants.{Replica}
use Rattle.ulfm_c.proofs.party.Party.begin_agree.Goals as goal

pub returns-in-Some : goal.returns-in-Some
returns-in-Some c =
    let flag : FlagAnd = record { bits = c.args.flag; fits = _ } in
    let by : _ → Call FlagAnd = λ n. Agree n c.args.comm flag in
    let same : to_z w32 (of_z w32 c.begin.result) ≡ c.begin.result = search rules in
    let held = c.in-Some.ensures in
    subst (λ (s : Party). PartyReplays (ReplicaAgrees c.args.comm c.args.flag) s (Replica c.begin.new.replica) (to_z w32 (of_z w32 c.begin.result))) (sym c.in-Replica.is)
    (subst (λ (o : Option (Replicated FlagAnd)). ReplicaAgrees c.args.comm c.args.flag o c.begin.new.replica (to_z w32 (of_z w32 c.begin.result))) (sym held.1) (
      flag,
      refl,
      subst (λ (o : Option (Replicated FlagAnd)). ReplicaBegins by o c.begin.new.replica (to_z w32 (of_z w32 c.begin.result))) held.1
          (subst (λ (z : ℤ). ReplicaBegins by c.in-Replica.replica c.begin.new.replica z) (sym same) (c.begin.ensures held.0 by held.1 (ap by held.2))),
    ))

pub returns-in-None : goal.returns-in-None
returns-in-None c =
    subst (λ (s : Party). PartyReplays (ReplicaAgrees c.args.comm c.args.flag) s (Replica c.in-Replica.replica) (pos 23)) (sym c.in-Replica.is)
    (subst (λ (o : Option (Replicated FlagAnd)). ReplicaAgrees c.args.comm c.args.flag o o (pos 23)) (sym c.in-None.ensures) (refl, refl))
