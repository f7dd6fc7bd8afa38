use Rattle.std.proofs.Common.{◌∷◌, ◌++◌, [], arith, refl, ◌∙◌}
use Rattle.std.proofs.Math.Seq.{map-set_same}
use Rattle.ulfm_numbers.specs.Failed.{members_of}
use Rattle.ulfm_numbers.proofs.Failing.{all_declared, next_declared, none_declared, one_declared}
use Rattle.ulfm_numbers.proofs.groups.declare_in_all.Goals as goal

pub loop-group-init : goal.loop-group-init
loop-group-init g c = (refl, λ failures count are. none_declared failures (failures ++ c.args.rank ∷ []) c.args.groups.now are)

pub returns-in_err-declare-clause-members : goal.returns-in_err-declare-clause-members
returns-in_err-declare-clause-members g c =
    map-set_same members_of c.loop-group.groups c.loop-group.group-index c.declare.new.group c.group-item.result c.declare.ensures.members ∙ c.loop-group.invariant.0

pub loop-group-preserved : goal.loop-group-preserved
loop-group-preserved g c = (
  map-set_same members_of c.loop-group.groups c.loop-group.group-index c.declare.new.group c.group-item.result c.declare.ensures.members ∙ c.loop-group.invariant.0,
  λ failures count are.
      let groups = c.loop-group.groups in
      let i = c.loop-group.group-index in
      let parts = c.loop-group.invariant.1 failures count are in
      let before = next_declared failures (failures ++ c.args.rank ∷ []) i groups c.group-item.result (omega (arith, c.loop-group-test.true)) parts in
      one_declared failures (failures ++ c.args.rank ∷ []) i groups c.declare.new.group (omega (arith, c.loop-group-test.true)) parts (c.in_ok-declare.ensures.failed failures count before),
)

pub returns-clause-failed : goal.returns-clause-failed
returns-clause-failed g c = λ failures count are.
    all_declared failures (failures ++ c.args.rank ∷ []) c.loop-group.group-index c.loop-group.groups (omega (arith, c.loop-group-test.false)) (c.loop-group.invariant.1 failures count are)
