use Rattle.std.proofs.Common.{sym, ap, ◌∙◌, Some}
use Rattle.ulfm_model.specs.{Laws.{summary_of}, Words.{slot_word}, declared.contribution.Slot.TheVariants.{Mark as Marked}}
use Rattle.ulfm_words.specs.Slots.{tag_in}
use Rattle.ulfm_words.proofs.Reading.{given_of, mark_wing_said, marked_of, slot_some_word, slot_word_said}
use Rattle.ulfm_words.proofs.accesses.load_slot.Goals as goal

pub said_in-requires : goal.said_in-requires
said_in-requires g c =
    let s = slot_some_word g.P.Packed.pack (g.W.Words.sight c.load-word.new.pass).seen c.args.comm c.args.round c.args.rank c.load-word.result c.load-word.ensures.word c.if-word-eq0.false in
    let m = marked_of g.P.Packed.pack s.0 (ap tag_in (sym s.2) ∙ c.if-word-eq0-2.true) in
    (summary_of (Marked m.0), s.2 ∙ (ap (slot_word g.P.Packed.pack) m.1 ∙ slot_word_said g.P.Packed.pack (Marked m.0)), mark_wing_said g.P.Packed.pack m.0)

pub returns-then-word-eq0-2-clause-found : goal.returns-then-word-eq0-2-clause-found
returns-then-word-eq0-2-clause-found g c =
    let s = slot_some_word g.P.Packed.pack (g.W.Words.sight c.load-word.new.pass).seen c.args.comm c.args.round c.args.rank c.load-word.result c.load-word.ensures.word c.if-word-eq0.false in
    let m = marked_of g.P.Packed.pack s.0 (ap tag_in (sym s.2) ∙ c.if-word-eq0-2.true) in
    let word = s.2 ∙ (ap (slot_word g.P.Packed.pack) m.1 ∙ slot_word_said g.P.Packed.pack (Marked m.0)) in
    (m.0, s.1 ∙ ap Some m.1, c.said_in.ensures (summary_of (Marked m.0)) word (mark_wing_said g.P.Packed.pack m.0))

pub returns-clause-found : goal.returns-clause-found
returns-clause-found g c =
    let s = slot_some_word g.P.Packed.pack (g.W.Words.sight c.load-word.new.pass).seen c.args.comm c.args.round c.args.rank c.load-word.result c.load-word.ensures.word c.if-word-eq0.false in
    let m = given_of g.P.Packed.pack s.0 (λ tag. c.if-word-eq0-2.false (ap tag_in s.2 ∙ tag)) in
    (m.0, s.1 ∙ ap Some m.1, s.2 ∙ ap (slot_word g.P.Packed.pack) m.1)
