use Rattle.std.proofs.Common.{arith, ◌≤◌, ◌∙◌, subst, sym}
use Rattle.ulfm_model.specs.Traces.{nothing, said_by}
use Rattle.ulfm_lines.specs.Progress.{Progress}
use Rattle.ulfm_run.specs.FailingScripts.{ComesFar, CountsOn, state_of, up_to}
use Rattle.ulfm_run.proofs.Far.{counts_walk, far_both, far_cut, far_whole}
use Rattle.ulfm_run.proofs.FailLemmas.{not_cut, walk_before, walk_behind, walk_whole}
use Rattle.ulfm_run.proofs.failing.FailingLines.walk.Goals as goal

pub returns-then-not-self-clause-told : goal.returns-then-not-self-clause-told
returns-then-not-self-clause-told g c = λ limits trace rest at.
    let m = g.M.StepMachine.Stands in
    walk_whole limits c.args.rank c.args.reach trace rest (state_of m c.args.self.now) (m c.steps.new.self) c.in_ok-made.made c.count_up-self.result
    c.steps.new.teller.text.items c.if-not-self.true at (c.in_ok-made.ensures.tells (said_by (nothing limits) trace) at.says) c.count_up-self.ensures

pub returns-then-not-branch-clause-told : goal.returns-then-not-branch-clause-told
returns-then-not-branch-clause-told g c = λ limits trace rest at.
    let m = g.M.StepMachine.Stands in
    walk_before limits c.args.rank c.args.reach trace rest (state_of m c.args.self.now) (state_of m c.declare.new.self) (m c.steps-2.new.self) at
    c.saturating_sub-left.result c.in_ok-first.first c.count_up-self-2.result c.steps-2.new.teller.text.items (rw c.cut_to.ensures at c.in_ok-first.ensures.tells)
    c.count_up-self-2.ensures c.saturating_sub-left.ensures (omega arith) c.in_ok-declare.field-0 (c.in_ok-declare.ensures.told limits) c.if-not-branch.true
    (c.in_ok-declare.ensures.early c.if-not-branch.true c.if-not-self.false)

pub returns-clause-told : goal.returns-clause-told
returns-clause-told g c = λ limits trace rest at.
    let m = g.M.StepMachine.Stands in
    walk_behind limits c.args.rank c.args.reach trace rest (state_of m c.args.self.now) (state_of m c.declare.new.self) (m c.steps-2.new.self) at
    c.saturating_sub-left.result c.in_ok-first.first c.count_up-self-2.result c.steps-2.new.teller.text.items (rw c.cut_to.ensures at c.in_ok-first.ensures.tells)
    c.count_up-self-2.ensures c.saturating_sub-left.ensures (omega arith) c.in_ok-declare.field-0 (c.in_ok-declare.ensures.told limits) c.if-not-branch.false
    (m c.steps-3.new.self) c.in_ok-rest.rest c.count_up-self-3.result c.steps-3.new.teller.text.items (rw c.cut_behind.ensures at c.in_ok-rest.ensures.tells)
    c.count_up-self-3.ensures

pub returns-then-not-self-clause-far : goal.returns-then-not-self-clause-far
returns-then-not-self-clause-far g c =
    let m = g.M.StepMachine.Has in
    let was = c.args.self.now in
    far_whole (m was.machine) (m c.steps.new.self) c.args.rank c.args.reach was.made c.in_ok-made.made c.count_up-self.result c.in_ok-made.ensures.goes c.count_up-self.ensures

pub returns-then-not-branch-clause-far : goal.returns-then-not-branch-clause-far
returns-then-not-branch-clause-far g c =
    let m = g.M.StepMachine.Has in
    let was = c.args.self.now in
    let after = c.declare.new.self in
    let left = c.saturating_sub-left.result in
    let n = c.in_ok-first.first in
    let at_fits : was.plan.at ≤ 4294967295 = omega arith in
    let far = rw c.cut_to.ensures at c.in_ok-first.ensures.goes in
    let other = not_cut was.plan.at was.made n c.count_up-self-2.result c.count_up-self-2.ensures at_fits (c.in_ok-declare.ensures.early c.if-not-branch.true c.if-not-self.false) in
    subst (λ (p : Progress). ComesFar c.args.reach was.made after.made (p.next c.args.rank)) (sym (c.in_ok-declare.ensures.idle c.if-not-branch.true))
    (subst (λ n. ComesFar c.args.reach was.made n ((m c.steps-2.new.self).next c.args.rank)) (sym c.declare.ensures.made)
    (far_cut (m was.machine) (m c.steps-2.new.self) c.args.rank c.args.reach was.made left n c.count_up-self-2.result far (λ is. other (is ∙ c.saturating_sub-left.ensures)) c.count_up-self-2.ensures))

pub returns-clause-far : goal.returns-clause-far
returns-clause-far g c =
    let m = g.M.StepMachine.Has in
    let was = c.args.self.now in
    let after = c.declare.new.self in
    let left = c.saturating_sub-left.result in
    let n = c.in_ok-first.first in
    let first = rw c.cut_to.ensures at c.in_ok-first.ensures.goes in
    let last = rw c.cut_behind.ensures at c.in_ok-rest.ensures.goes in
    far_both (m after.machine) (m c.steps-3.new.self) c.args.rank c.args.reach was.made (m was.machine) (m c.steps-2.new.self) left n first c.in_ok-rest.rest c.count_up-self-2.result c.count_up-self-3.result last
    c.count_up-self-2.ensures (rw c.declare.ensures.made at c.count_up-self-3.ensures)

pub returns-then-not-self-clause-counts : goal.returns-then-not-self-clause-counts
returns-then-not-self-clause-counts g c = λ same.
    let m = g.M.StepMachine.Has in
    let was = c.args.self.now in
    counts_walk (m was.machine) (m c.steps.new.self) c.args.rank c.args.reach was.made c.in_ok-made.made c.count_up-self.result c.in_ok-made.ensures.goes c.count_up-self.ensures

pub returns-then-not-branch-clause-counts : goal.returns-then-not-branch-clause-counts
returns-then-not-branch-clause-counts g c = λ same.
    let m = g.M.StepMachine.Has in
    let was = c.args.self.now in
    let after = c.declare.new.self in
    let left = c.saturating_sub-left.result in
    let far = rw c.cut_to.ensures at c.in_ok-first.ensures.goes in
    subst (λ (p : Progress). CountsOn (m was.machine) p was.made after.made) (sym (c.in_ok-declare.ensures.idle c.if-not-branch.true))
    (subst (λ n. CountsOn (m was.machine) (m c.steps-2.new.self) was.made n) (sym c.declare.ensures.made)
    (counts_walk (m was.machine) (m c.steps-2.new.self) c.args.rank (up_to left c.args.reach) was.made c.in_ok-first.first c.count_up-self-2.result far c.count_up-self-2.ensures))

pub returns-clause-counts : goal.returns-clause-counts
returns-clause-counts g c = λ same. let once = c.in_ok-declare.ensures.once c.if-not-branch.false in absurd (cc (same, once.0, once.1))
