use Rattle.std.proofs.Common.{◌≡◌, ◌<◌, slice_index_or, length, arith}
use Rattle.ulfm_words.specs.Steps.{over}
use Rattle.ulfm_steps.proofs.Reading.{has_at, member_within, missing_at}
use Rattle.ulfm_comm.proofs.Waiting.{goes_none, load_goes}
use Rattle.ulfm_comm.proofs.phases.agreement.load_missing.Goals as goal

pub load_slot-requires-clause-within : goal.load_slot-requires-clause-within
load_slot-requires-clause-within g c =
    let r = c.args.reading.now in
    let may = c.requires in
    let group = c.args.group.now in
    member_within (g.W.Words.name c.args.words.now).limits g.P.Meld.meld (g.W.Words.sight c.args.pass.now).seen r.comm r.round (slice_index_or group c.args.place 0) group
    may.of.legal may.of.may_open may.round (has_at group c.args.place 0 (omega (arith, c.if-place-group.false)))

pub returns-then-place-group-clause-goes : goal.returns-then-place-group-clause-goes
returns-then-place-group-clause-goes g c =
    goes_none g.P.Meld.meld g.W.Words.alone (over g.P.Packed.pack (g.W.Words.name c.args.words.now)) 1 (g.W.Words.sight c.args.pass.now) c.requires.of

pub returns-in-Nothing-clause-goes : goal.returns-in-Nothing-clause-goes
returns-in-Nothing-clause-goes g c =
    load_goes g.P.Meld.meld g.W.Words.alone (over g.P.Packed.pack (g.W.Words.name c.args.words.now)) g.P.Packed.pack _ (g.W.Words.sight c.args.pass.now)
    (g.W.Words.sight c.load_slot.new.pass) c.load_slot.ensures.loads

pub returns-in-Marked-clause-goes : goal.returns-in-Marked-clause-goes
returns-in-Marked-clause-goes g c =
    load_goes g.P.Meld.meld g.W.Words.alone (over g.P.Packed.pack (g.W.Words.name c.args.words.now)) g.P.Packed.pack _ (g.W.Words.sight c.args.pass.now)
    (g.W.Words.sight c.load_slot.new.pass) c.load_slot.ensures.loads

pub returns-in-First-clause-goes : goal.returns-in-First-clause-goes
returns-in-First-clause-goes g c =
    load_goes g.P.Meld.meld g.W.Words.alone (over g.P.Packed.pack (g.W.Words.name c.args.words.now)) g.P.Packed.pack _ (g.W.Words.sight c.args.pass.now)
    (g.W.Words.sight c.load_slot.new.pass) c.load_slot.ensures.loads

pub returns-in-Nothing-clause-loads : goal.returns-in-Nothing-clause-loads
returns-in-Nothing-clause-loads g c = λ _. omega (arith, c.load_slot.ensures.loads.steps)

pub returns-in-Nothing-clause-missing : goal.returns-in-Nothing-clause-missing
returns-in-Nothing-clause-missing g c = λ _.
    let r = c.args.reading.now in
    missing_at g.P.Packed.pack (g.W.Words.sight c.load_slot.new.pass) r.comm r.round c.args.place c.args.group.now (omega (arith, c.if-place-group.false))
    c.in-Nothing.ensures.found c.load_slot.ensures.loads.last
