use Rattle.std.proofs.Common.{false}
use Rattle.ulfm_model.specs.{declared.block.Wing.{Wing}}
use Rattle.ulfm_model.proofs.{Blocks.{block_stays, has_wing_stays}}
use Rattle.ulfm_words.proofs.Trails.{did_prefix}
use Rattle.ulfm_intruder.proofs.{Passing.{caches_after}}
use Rattle.ulfm_intruder.proofs.intruder.IntruderWords.cache.Goals as goal

pub cache-answer-requires-clause-may : goal.cache-answer-requires-clause-may
cache-answer-requires-clause-may g c =
    let old = c.args.pass.now.plain.seen in
    let now = c.intrude.new.pass.plain.seen in
    rw c.intrude.ensures.of.name_is (block_stays g.P.Meld.meld g.P.Packed.pack c.args.self.now.plain.limits.ranks old now c.args.block c.args.word (did_prefix false _ old now c.intrude.ensures.did) c.requires.may)

pub cache-answer-requires-clause-winged : goal.cache-answer-requires-clause-winged
cache-answer-requires-clause-winged g c =
    let is = c.requires.winged in
    (is.0, is.1, has_wing_stays c.args.pass.now.plain.cached c.intrude.new.pass.plain.cached (Wing.Block c.args.block) is.0 c.intrude.ensures.cached is.2)

pub returns : goal.returns
returns g c =
    let first = c.intrude.ensures in
    rw c.note_exchange.ensures.plain (caches_after g.P.Meld.meld g.P.Packed.pack _ c.args.pass.now.plain c.intrude.new.pass.plain c.cache-answer.new.self _ _ c.note_exchange.new.self.trail (record { of = first.of; did = first.did; cached = first.cached; same = first.trail })
    c.args.block c.args.word c.cache-answer.result c.note_exchange.ensures.log c.cache-answer.ensures)
