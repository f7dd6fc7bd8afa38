use Rattle.std.proofs.Common.{◌∙◌, ap, arith, is_some, sym}
use Rattle.ulfm_steps.proofs.{InBlocks.{few_members, starts}, Reading.{world_round}}
use Rattle.ulfm_steps_tests.proofs.tests.blocks.read.Goals as goal

pub overflow_cast-members : goal.overflow_cast-members
overflow_cast-members g c =
    let limits = (g.W.Words.name c.args.words.now).limits in
    let seen = (g.W.Words.sight c.args.pass.now).seen in
    let few = few_members limits seen 0 0 c.args.group.now c.requires.of.may_open (rw c.requires.group (world_round limits seen 0 c.requires.rounds)) in
    omega (arith, few)

pub advance-requires : goal.advance-requires
advance-requires g c =
    let limits = (g.W.Words.name c.args.words.now).limits in
    let seen = (g.W.Words.sight c.peek-blocks.new.pass).seen in
    record {
      of = c.peek-blocks.ensures.of;
      round = rw (c.new-reading.ensures, c.requires.group) (world_round limits seen 0 c.requires.rounds);
      at = rw c.new-reading.ensures (starts g.P.Meld.meld seen 0 0 c.args.group.now c.peek-blocks.result c.requires.some c.peek-blocks.ensures.are
          (sym c.all.ensures.whole ∙ ap is_some c.in_default.is));
      half = rw c.new-reading.ensures (record { first = tt; more = λ some. absurd (cc some); winged = λ set. absurd (cc set) });
    }
