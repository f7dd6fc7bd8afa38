use Rattle.std.proofs.Common.{arith, refl}
use Rattle.ulfm_run.specs.FailingScripts.{state_of}
use Rattle.ulfm_run.proofs.FailLemmas.{declared_by, none_due}
use Rattle.ulfm_run.proofs.failing.FailingLines.declare.Goals as goal
use Rattle.ulfm_run.proofs.failing.FailingLines.declare.Goals.{then-not-self-via-then-not-self, then-not-self-via-else-not-self+then-self}

pub returns-then-not-self-clause-told : goal.returns-then-not-self-clause-told
returns-then-not-self-clause-told g c = λ limits trace rest at.
    let was = state_of g.M.StepMachine.Stands c.args.self.now in
    elim c.then-not-self.branch [
      | then-not-self-via-then-not-self w ↦
          none_due was was limits trace rest at (λ is. absurd (cc (is, w.if-not-self.true))) refl
      | then-not-self-via-else-not-self+then-self w ↦
          none_due was was limits trace rest at (λ is. (w.if-self.true, omega arith)) refl
    ]

pub returns-clause-told : goal.returns-clause-told
returns-clause-told g c = λ limits trace rest at.
    let m = g.M.StepMachine.Stands in
    declared_by (state_of m c.args.self.now) (m c.run.new.self) limits trace rest at c.if-self.false c.if-not-self.false c.in_ok-run.field-0
    c.run.new.teller.text.items (c.in_ok-run.ensures.tells _ at.says)
