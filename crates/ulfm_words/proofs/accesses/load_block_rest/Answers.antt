use Rattle.std.proofs.Common.{sym, subst}
use Rattle.ulfm_words.specs.Blocks.{BlockSays}
use Rattle.ulfm_words.proofs.{Reading.{block_both_said}, Trails.{did_prefix}}
use Rattle.ulfm_words.proofs.accesses.load_block_rest.Goals as goal

pub said_in-requires : goal.said_in-requires
said_in-requires g c =
    let old = (g.W.Words.sight c.args.pass.now).seen in
    let new = (g.W.Words.sight c.load_wing-wing.new.pass).seen in
    let is = c.load_wing-wing.ensures.stands in
    let both = block_both_said g.P.Packed.pack g.P.Meld.meld (g.W.Words.name c.args.words.now).limits.ranks old new c.args.block c.args.first c.load_wing-wing.result (did_prefix g.W.Words.alone _ old new c.load_wing-wing.ensures.did) c.requires.first is in
    (is.all, both.0, both.1)

pub returns-clause-said : goal.returns-clause-said
returns-clause-said g c =
    let ranks = (g.W.Words.name c.args.words.now).limits.ranks in
    let old = (g.W.Words.sight c.args.pass.now).seen in
    let new = (g.W.Words.sight c.load_wing-wing.new.pass).seen in
    let is = c.load_wing-wing.ensures.stands in
    let both = block_both_said g.P.Packed.pack g.P.Meld.meld ranks old new c.args.block c.args.first c.load_wing-wing.result (did_prefix g.W.Words.alone _ old new c.load_wing-wing.ensures.did) c.requires.first is in
    subst (BlockSays g.P.Meld.meld ranks new c.args.block) (sym (c.said_in.ensures is.all both.0 both.1)) (record { exists = is.exists; side = is.side; summed = is.summed })
