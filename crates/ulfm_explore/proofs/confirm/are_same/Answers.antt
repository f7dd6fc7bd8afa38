use Rattle.std.proofs.Common.{arith}
use Rattle.ulfm_explore.specs.Views.{row_of}
use Rattle.ulfm_explore.proofs.Same.{same_more, same_there}
use Rattle.ulfm_explore.proofs.confirm.are_same.Goals as goal

pub returns-then-not-is_same : goal.returns-then-not-is_same
returns-then-not-is_same g c = (
  λ no. absurd (cc),
  λ same. c.if-not-is_same.ensures.1 (same_there row_of c.args.first.now c.args.second.now c.loop-i.i c.index-first-i.result c.index-second-i.result (omega arith)
      (omega arith) c.index-first-i.is c.index-second-i.is same),
)

pub loop-i-preserved : goal.loop-i-preserved
loop-i-preserved g c =
    same_more row_of c.args.first.now c.args.second.now c.loop-i.i c.index-first-i.result c.index-second-i.result (omega arith) (omega arith) c.index-first-i.is
    c.index-second-i.is (c.is_same.ensures.0 c.if-not-is_same.false) c.loop-i.invariant
