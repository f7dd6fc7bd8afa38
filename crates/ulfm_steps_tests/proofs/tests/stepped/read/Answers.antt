use Rattle.std.proofs.Common.{[], arith}
use Rattle.ulfm_model.proofs.Summed.{summed_none}
use Rattle.ulfm_words.proofs.Trails.{did_prefix}
use Rattle.ulfm_steps.proofs.Reading.{round_stays, world_round}
use Rattle.ulfm_steps_tests.proofs.tests.stepped.read.Goals as goal

pub loop-reading-init : goal.loop-reading-init
loop-reading-init g c =
    let name = g.W.Words.name c.args.words.now in
    let seen = (g.W.Words.sight c.args.pass.now).seen in
    record {
      of = c.requires.of;
      round_of = rw (c.new-reading.ensures, c.requires.group) (world_round name.limits seen 0 c.requires.rounds);
      within = rw c.new-reading.ensures (omega arith);
      read = rw c.new-reading.ensures (summed_none g.P.Meld.meld seen 0 0);
      first = rw c.new-reading.ensures tt;
    }

pub loop-reading-preserved : goal.loop-reading-preserved
loop-reading-preserved g c =
    let now = (g.W.Words.sight c.loop-reading.pass).seen in
    let after = (g.W.Words.sight c.advance.new.pass).seen in
    let here = c.loop-reading.reading in
    let e = c.advance.ensures.reads in
    record {
      of = e.goes.of;
      round_of = rw (e.comm, e.round) (round_stays (g.W.Words.name c.args.words.now).limits now after here.comm here.round c.args.group.now (did_prefix g.W.Words.alone [] now after e.goes.did) c.loop-reading.invariant.round_of);
      within = e.within;
      read = rw (e.comm, e.round) e.read;
      first = e.first;
    }
