use Rattle.ulfm_intruder.proofs.{Passing.{loads_block_after}}
use Rattle.ulfm_intruder.proofs.intruder.IntruderWords.load_block.Goals as goal

pub returns : goal.returns
returns g c =
    let first = c.intrude.ensures in
    rw c.note.ensures.plain (loads_block_after g.P.Meld.meld g.P.Packed.pack _ c.args.pass.now.plain c.intrude.new.pass.plain c.load_block-word.new.self _ _ c.note.new.self.trail (record { of = first.of; did = first.did; cached = first.cached; same = first.trail })
    c.args.block c.load_block-word.result c.note.ensures.log c.load_block-word.ensures)
