use Rattle.std.proofs.Common.{◌≡◌, Option, None, Some, true, is_some, refl, sym, ◌∙◌, ap, subst}
use Rattle.std.specs.Prelude.{IfSome}
use Rattle.ulfm_model.specs.declared.event.Entry.{Entry}
use Rattle.ulfm_replica.specs.Replicas.{Calling, IsCalling, IsWanted, Replicated, rules}
use Rattle.ulfm_replica.proofs.{Fitting.{keeps_same}, Running.{comes_then, keeps_then}}
use Rattle.ulfm_replica.proofs.machine.Machine.run.Goals as goal

-- what has a value isn't none
some_none : {X W : Type 0} (o : Option X) → is_some o ≡ true → o ≡ None → W
some_none None is none = absurd (cc is)
some_none (Some x) is none = absurd (cc none)

pub loop-machine-init : goal.loop-machine-init
loop-machine-init g c = record { keeps = keeps_same (rules g.P.Meld.meld g.P.Packed.pack) c.args.self.at; same = λ none. refl; seen = refl; fed = refl }

pub returns-in-Ok-Some : goal.returns-in-Ok-Some
returns-in-Ok-Some g c =
    let by = rules g.P.Meld.meld g.P.Packed.pack in
    let inv = c.loop-machine.invariant in
    let wanted = subst (λ (o : Option (Entry g.row.P.Denot)). IfSome o (IsWanted by c.loop-machine.machine.at)) c.in-Ok-Some.field-0-is c.in-Ok-Some.ensures in
    record { words = inv.keeps.words; fed = inv.fed; seen = inv.seen; comes = (wanted, inv.keeps) }

pub loop-machine-smaller : goal.loop-machine-smaller
loop-machine-smaller g c = c.in_ok-machine-in-Ok-None.ensures.0.nearer

pub loop-machine-preserved : goal.loop-machine-preserved
loop-machine-preserved g c =
    let by = rules g.P.Meld.meld g.P.Packed.pack in
    let inv = c.loop-machine.invariant in
    let step = c.in_ok-machine-in-Ok-None.ensures in
    record {
      keeps = keeps_then by c.args.self.at c.loop-machine.machine.at inv.keeps inv.same c.in_ok-machine-in-Ok-None.machine.at step.0.keeps;
      same = λ none. some_none c.loop-machine.machine.at.call (subst (λ (r : Replicated g.row.P.Denot). is_some r.at.call ≡ true) c.machine.view_is (sym c.is_under_way.ensures ∙ c.loop-machine-test.true)) (ap (λ (r : Calling g.row.P.Denot). r.call) (inv.same none) ∙ none);
      seen = step.1 ∙ inv.seen;
      fed = step.2 ∙ inv.fed;
    }

pub returns : goal.returns
returns g c =
    let by = rules g.P.Meld.meld g.P.Packed.pack in
    let inv = c.loop-machine.invariant in
    let told = c.told.ensures in
    record {
      words = told.words ∙ inv.keeps.words;
      fed = told.fed ∙ inv.fed;
      seen = told.seen ∙ inv.seen;
      comes = comes_then by c.args.self.at c.loop-machine.machine.at inv.keeps inv.same (subst (λ (r : Replicated g.row.P.Denot). IsCalling by r.at) c.self.view_is c.known.ensures) c.told.result.1 c.told.result.0.at told.comes;
    }
