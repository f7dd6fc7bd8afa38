use Rattle.std.proofs.Common.{[], refl, append-nil, arith, rules}
use Rattle.ulfm_model.specs.History.{failures}
use Rattle.ulfm_model.proofs.Summed.{summed_none}
use Rattle.ulfm_steps.proofs.{Groups.{round_rises}, Reading.{world_round}}
use Rattle.ulfm_steps_tests.proofs.tests.finished.poll.Goals as goal

pub finish-requires-clause-look : goal.finish-requires-clause-look
finish-requires-clause-look g c = rw c.new.ensures.found ((failures (g.W.Words.sight c.args.pass.now).seen, refl), omega (arith, c.requires.of.may_open.in_range.ranks))

pub new-requires-2 : goal.new-requires-2
new-requires-2 g c =
    let limits = (g.W.Words.name c.args.words.now).limits in
    let seen = (g.W.Words.sight c.finish.new.pass).seen in
    record { rises = round_rises limits seen 0 0 c.args.group.now (rw c.requires.group (world_round limits seen 0 c.requires.rounds)) }

pub finish-requires-2-clause-may : goal.finish-requires-2-clause-may
finish-requires-2-clause-may g c =
    rw (c.new-2.ensures.comm, c.new-2.ensures.round) (record {
      round = rw c.requires.group (world_round (g.W.Words.name c.args.words.now).limits (g.W.Words.sight c.finish.new.pass).seen 0 c.requires.rounds);
      begins = rw (c.deref-2.ensures.value, c.finish.ensures.found) ([], append-nil _);
    })

pub finish-requires-3-clause-may : goal.finish-requires-3-clause-may
finish-requires-3-clause-may g c =
    let seen = (g.W.Words.sight c.finish-2.new.pass).seen in
    record {
      of = search rules;
      round = rw (c.new-3.ensures, c.requires.group) (world_round (g.W.Words.name c.args.words.now).limits seen 0 c.requires.rounds);
      read = rw c.new-3.ensures (summed_none g.P.Meld.meld seen 0 0);
      first = rw c.new-3.ensures tt;
    }
