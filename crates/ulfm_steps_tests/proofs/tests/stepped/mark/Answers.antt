use Rattle.ulfm_words.proofs.Trails.{did_prefix}
use Rattle.ulfm_steps.proofs.{Groups.{round_rises}, Marking.{may_stays}}
use Rattle.ulfm_steps_tests.proofs.tests.stepped.mark.Goals as goal

pub new-marking-requires : goal.new-marking-requires
new-marking-requires g c = record { rises = round_rises (g.W.Words.name c.args.words.now).limits (g.W.Words.sight c.args.pass.now).seen 0 0 c.args.group.now c.requires.may.round }

pub loop-marking-preserved : goal.loop-marking-preserved
loop-marking-preserved g c =
    let here = c.loop-marking.marking in
    let e = c.advance.ensures in
    record {
      of = e.marks.marks.of;
      may = rw (e.comm, e.round) (may_stays (g.W.Words.name c.args.words.now).limits _ _ here.comm here.round c.args.group.now c.args.declared.now (did_prefix g.W.Words.alone _ _ _ e.marks.marks.marks.did) c.loop-marking.invariant.may);
      at = e.at;
    }
