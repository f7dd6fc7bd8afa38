use Rattle.std.proofs.Common.{false}
use Rattle.ulfm_words.proofs.Trails.{did_prefix}
use Rattle.ulfm_intruder.proofs.{Passing.{sets_after}, Welcome.{sets_later, winged_later}}
use Rattle.ulfm_intruder.proofs.intruder.IntruderWords.set_once.Goals as goal

pub set_once-answer-requires-clause-within : goal.set_once-answer-requires-clause-within
set_once-answer-requires-clause-within g c = rw c.intrude.ensures.of.name_is c.requires.within

pub set_once-answer-requires-clause-may : goal.set_once-answer-requires-clause-may
set_once-answer-requires-clause-may g c =
    let old = c.args.pass.now.plain.seen in
    let now = c.intrude.new.pass.plain.seen in
    rw c.intrude.ensures.of.name_is (sets_later g.P.Meld.meld g.P.Packed.pack g.P.Packed.unpack c.args.self.now.plain.limits old now c.args.step (did_prefix false _ old now c.intrude.ensures.did) c.requires.may)

pub set_once-answer-requires-clause-winged : goal.set_once-answer-requires-clause-winged
set_once-answer-requires-clause-winged g c entry is =
    winged_later g.P.Packed.pack c.args.pass.now.plain.cached c.intrude.new.pass.plain.cached entry.event c.intrude.ensures.cached (c.requires.winged entry is)

pub returns : goal.returns
returns g c =
    let first = c.intrude.ensures in
    rw c.note_exchange.ensures.plain (sets_after g.P.Meld.meld g.P.Packed.pack _ c.args.pass.now.plain c.intrude.new.pass.plain c.set_once-answer.new.self _ _ c.note_exchange.new.self.trail (record { of = first.of; did = first.did; cached = first.cached; same = first.trail })
    g.P.Packed.unpack c.args.step c.set_once-answer.result c.note_exchange.ensures.log c.set_once-answer.ensures)
