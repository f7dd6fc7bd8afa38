use Rattle.ulfm_intruder.proofs.{Passing.{loads_after}}
use Rattle.ulfm_intruder.proofs.intruder.IntruderWords.load.Goals as goal

pub returns-clause-loads : goal.returns-clause-loads
returns-clause-loads g c =
    let first = c.intrude.ensures in
    rw c.note.ensures.plain (loads_after g.P.Meld.meld g.P.Packed.pack _ c.args.pass.now.plain c.intrude.new.pass.plain c.load-word.new.self _ _ c.note.new.self.trail (record { of = first.of; did = first.did; cached = first.cached; same = first.trail })
    c.args.place c.load-word.result c.note.ensures.log c.load-word.ensures.word c.load-word.ensures.loads)
