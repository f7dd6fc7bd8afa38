use Rattle.std.proofs.Common.{◌≡◌, length, arith, subst}
use Rattle.ulfm_steps.specs.Marks.{HasMarked}
use Rattle.ulfm_steps.proofs.Marking.{marked_none}
use Rattle.ulfm_steps.proofs.blocks.MarkAll.finish.Goals as goal
use Rattle.ulfm_steps.specs.Among.{among}
use Rattle.ulfm_words.specs.Steps.{over, view_of}

pub returns-else-self-declared : goal.returns-else-self-declared
returns-else-self-declared g c =
    let now = g.W.Words.sight c.args.pass.now in
    let group = c.args.group.now in
    let declared = c.args.declared.now in
    let end : c.args.self.next ≡ length declared = omega (arith, c.requires.at.within, c.if-self-declared.false) in
    record {
      marks = subst (λ n. HasMarked g.P.Meld.meld g.W.Words.alone c.args.self (among group declared) n (view_of g.P.Packed.pack (g.W.Words.name c.args.words.now) now) (view_of g.P.Packed.pack (g.W.Words.name c.args.words.now) now)) end (marked_none g.P.Meld.meld g.W.Words.alone (over g.P.Packed.pack (g.W.Words.name c.args.words.now)) c.args.self group declared now c.requires.of);
    }
