use Rattle.std.proofs.Common.{arith}
use Rattle.ulfm_words.proofs.Trails.{did_prefix}
use Rattle.ulfm_steps.proofs.{Appending.{append_stays}, Coming.{may_fail}}
use Rattle.ulfm_steps_tests.proofs.tests.stepped.declare.Goals as goal

pub loop-end-init : goal.loop-end-init
loop-end-init g c =
    let limits = (g.W.Words.name c.args.words.now).limits in
    record {
      of = c.requires.of;
      may = rw c.new-append.ensures (may_fail g.P.Meld.meld limits (g.W.Words.sight c.args.pass.now).seen c.args.rank c.requires.there);
      round = rw c.new-append.ensures tt;
      passed = rw c.new-append.ensures (λ j lt. absurd (omega (arith, lt)));
      within = rw c.new-append.ensures (omega (arith, c.requires.there));
    }

pub loop-end-preserved : goal.loop-end-preserved
loop-end-preserved g c =
    let limits = (g.W.Words.name c.args.words.now).limits in
    let now = (g.W.Words.sight c.loop-end.pass).seen in
    let after = (g.W.Words.sight c.advance.new.pass).seen in
    let same = c.advance.ensures.same in
    let e = c.in_default.ensures in
    let inv = c.loop-end.invariant in
    record {
      of = e.goes.of;
      may = rw same.0 (append_stays g.P.Meld.meld limits now after c.loop-end.append.item (did_prefix g.W.Words.alone _ now after e.goes.did) inv.may);
      round = rw same.0 inv.round;
      passed = rw same.0 e.passed;
      within = rw same.0 e.within;
    }
