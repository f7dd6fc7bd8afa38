use Rattle.std.proofs.Common.{false}
use Rattle.ulfm_words.specs.{Steps.{view_of}}
use Rattle.ulfm_words.proofs.Trails.{did_prefix}
use Rattle.ulfm_intruder.proofs.{Passing.{loads_wing_after}, Welcome.{spread_on}}
use Rattle.ulfm_intruder.proofs.intruder.IntruderWords.load_wing.Goals as goal

pub load_wing-word-requires-clause-stands : goal.load_wing-word-requires-clause-stands
load_wing-word-requires-clause-stands g c =
    let old = c.args.pass.now.plain in
    let mid = c.intrude.new.pass.plain in
    spread_on (view_of g.P.Packed.pack old.name old) (view_of g.P.Packed.pack mid.name mid) c.args.wing (did_prefix false _ old.seen mid.seen c.intrude.ensures.did) c.intrude.ensures.cached c.requires.stands

pub returns : goal.returns
returns g c =
    let first = c.intrude.ensures in
    rw c.note.ensures.plain (loads_wing_after g.P.Meld.meld g.P.Packed.pack _ c.args.pass.now.plain c.intrude.new.pass.plain c.load_wing-word.new.self _ _ c.note.new.self.trail (record { of = first.of; did = first.did; cached = first.cached; same = first.trail })
    c.args.wing c.load_wing-word.result c.note.ensures.log c.load_wing-word.ensures)
