use Rattle.std.proofs.Common.{false}
use Rattle.ulfm_words.specs.{Steps.{view_of}}
use Rattle.ulfm_words.proofs.Trails.{did_prefix}
use Rattle.ulfm_words.specs.Pass.{plain_name}
use Rattle.ulfm_intruder.proofs.{Passing.{sets_wing_after}, Welcome.{may_spread_on}}
use Rattle.ulfm_intruder.proofs.intruder.IntruderWords.set_wing.Goals as goal

pub set_wing-answer-requires-clause-may : goal.set_wing-answer-requires-clause-may
set_wing-answer-requires-clause-may g c =
    let old = c.args.pass.now.plain in
    let mid = c.intrude.new.pass.plain in
    rw c.intrude.ensures.of.name_is (may_spread_on g.P.Meld.meld g.P.Packed.pack (view_of g.P.Packed.pack (plain_name c.args.self.now.plain.limits) old) mid c.args.wing c.args.word (did_prefix false _ old.seen mid.seen c.intrude.ensures.did) c.requires.may)

pub returns : goal.returns
returns g c =
    let first = c.intrude.ensures in
    rw c.note_exchange.ensures.plain (sets_wing_after g.P.Meld.meld g.P.Packed.pack _ c.args.pass.now.plain c.intrude.new.pass.plain c.set_wing-answer.new.self _ _ c.note_exchange.new.self.trail (record { of = first.of; did = first.did; cached = first.cached; same = first.trail })
    c.args.wing c.args.word c.set_wing-answer.result c.note_exchange.ensures.log c.set_wing-answer.ensures)
