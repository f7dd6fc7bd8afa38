use Rattle.ulfm_model.specs.{Laws.{summary_of}, declared.contribution.Slot.TheVariants.{Given}}
use Rattle.ulfm_words.proofs.{Reading.{both_said}, Trails.{did_prefix}}
use Rattle.ulfm_words.proofs.accesses.load_rest.Goals as goal

pub said_in-requires : goal.said_in-requires
said_in-requires g c =
    let old = (g.W.Words.sight c.args.pass.now).seen in
    let new = (g.W.Words.sight c.load_wing-wing.new.pass).seen in
    let is = c.load_wing-wing.ensures.stands in
    let both = both_said g.P.Packed.pack old new c.args.comm c.args.round c.args.rank c.args.first c.load_wing-wing.result (did_prefix g.W.Words.alone _ old new c.load_wing-wing.ensures.did) c.requires.first is in
    (summary_of (Given is.0), both.0, both.1)

pub returns-clause-summary : goal.returns-clause-summary
returns-clause-summary g c =
    let old = (g.W.Words.sight c.args.pass.now).seen in
    let new = (g.W.Words.sight c.load_wing-wing.new.pass).seen in
    let is = c.load_wing-wing.ensures.stands in
    let both = both_said g.P.Packed.pack old new c.args.comm c.args.round c.args.rank c.args.first c.load_wing-wing.result (did_prefix g.W.Words.alone _ old new c.load_wing-wing.ensures.did) c.requires.first is in
    (Given is.0, is.1, c.said_in.ensures (summary_of (Given is.0)) both.0 both.1)
