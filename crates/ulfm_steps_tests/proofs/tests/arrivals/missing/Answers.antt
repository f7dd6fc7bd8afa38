use Rattle.std.proofs.Common.{[]}
use Rattle.ulfm_words.proofs.Trails.{did_prefix}
use Rattle.ulfm_steps.proofs.{Arriving.{at_arrival_new}, Groups.{round_rises}, Reading.{round_stays, world_round}}
use Rattle.ulfm_steps_tests.proofs.tests.arrivals.missing.Goals as goal

pub new-arrivals-requires-clause-rises : goal.new-arrivals-requires-clause-rises
new-arrivals-requires-clause-rises g c =
    let limits = (g.W.Words.name c.args.words.now).limits in
    let seen = (g.W.Words.sight c.args.pass.now).seen in
    round_rises limits seen 0 0 c.args.group.now (rw c.requires.group (world_round limits seen 0 c.requires.rounds))

pub loop-missing-init : goal.loop-missing-init
loop-missing-init g c =
    let limits = (g.W.Words.name c.args.words.now).limits in
    let seen = (g.W.Words.sight c.args.pass.now).seen in
    let e = c.new-arrivals.ensures in
    record {
      of = c.requires.of;
      round_of = rw (e.comm, e.round, c.requires.group) (world_round limits seen 0 c.requires.rounds);
      at = at_arrival_new c.args.group.now c.args.declared.now c.new-arrivals.result seen e.asked e.first;
    }

pub loop-missing-preserved : goal.loop-missing-preserved
loop-missing-preserved g c =
    let e = c.advance.ensures in
    record {
      of = e.goes.of;
      round_of = rw (e.comm, e.round) (round_stays (g.W.Words.name c.args.words.now).limits _ _ _ _ c.args.group.now (did_prefix g.W.Words.alone [] _ _ e.goes.did) c.loop-missing.invariant.round_of);
      at = c.in_default.ensures.at;
    }
