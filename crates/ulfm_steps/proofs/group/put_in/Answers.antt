use Rattle.std.proofs.Common.{arith, sym, ◌∙◌}
use Rattle.std.proofs.lemmas.Grind.{common_steps}
use Rattle.ulfm_model.specs.History.{has}
use Rattle.ulfm_steps.proofs.Passing.{fewer_before, one_fails, one_passes}
use Rattle.ulfm_steps.proofs.group.put_in.Goals as goal
use Rattle.ulfm_steps.proofs.group.put_in.Goals.{then-is_member, else-is_member}

pub loop-rank-preserved : goal.loop-rank-preserved
loop-rank-preserved g c =
    let p = has c.args.group.now in
    let xs = c.args.ranks.now in
    let i = c.loop-rank.rank-index in
    elim c.if-is_member.branch [
      | then-is_member w ↦
          (let is = sym c.is_member.ensures ∙ w.if-is_member.true in
          let more = one_passes p xs i c.loop-rank-test.true is in
          let fewer = fewer_before p xs i c.loop-rank-test.true is in
          record { found = grind (arith, common_steps); room = grind (arith, common_steps) })
      | else-is_member w ↦
          (let is = sym c.is_member.ensures ∙ w.if-is_member.false in
          let same = one_fails p xs i c.loop-rank-test.true is in
          record { found = grind (arith, common_steps); room = grind (arith, common_steps) })
    ]
