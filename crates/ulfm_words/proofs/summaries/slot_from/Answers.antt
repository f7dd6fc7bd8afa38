use Rattle.std.proofs.Common.{sym, ◌∙◌, ◌≡◌, true, ap, arith}
use Rattle.std.proofs.lemmas.Bool.Decides.{nat_tests}
use Rattle.ulfm_words.specs.Slots.{acked_in, flag_offer, given_of, is_wing_word, known_in}
use Rattle.ulfm_words.proofs.Pairs.{read_flag, read_ids, read_mark}
use Rattle.ulfm_words.proofs.summaries.slot_from.Goals as goal
use Rattle.ulfm_words.proofs.summaries.slot_from.Goals.{then-tag-eq0, else-tag-eq0}

pub returns-in-0 : goal.returns-in-0
returns-in-0 g c =
    let zero : c.args.wing ≡ 0 = elim c.if-tag-eq0.branch [ then-tag-eq0 w ↦ grind (arith, nat_tests) | else-tag-eq0 w ↦ absurd (w.if-tag-eq0.false c.in-0.is) ] in
    c.mark_from.ensures ∙ sym (read_mark g.P.Packed.unpack c.args.word c.args.wing c.if-word-ne1.false c.if-word.false c.in-0.is zero)

pub returns-in_ok-unpack-in-1 : goal.returns-in_ok-unpack-in-1
returns-in_ok-unpack-in-1 g c =
    let formed : is_wing_word c.args.wing ≡ true = elim c.if-tag-eq0.branch [ then-tag-eq0 w ↦ absurd (omega (arith, w.if-tag-eq0.true, c.in-1.is)) | else-tag-eq0 w ↦ grind (arith, nat_tests) ] in
    let read = read_flag g.P.Packed.unpack c.args.word c.args.wing c.if-word-ne1.false c.if-word.false formed (omega (arith, c.in-1.is)) c.payload_in-payload.result c.payload_in-payload.ensures c.in-1.is in
    c.given_from.ensures ∙ sym (read ∙ ap (λ o. given_of (known_in c.args.word) (acked_in c.args.word) (flag_offer o)) (sym c.unpack.ensures ∙ c.in_ok-unpack-in-1.was))

pub returns-in-2 : goal.returns-in-2
returns-in-2 g c =
    let formed : is_wing_word c.args.wing ≡ true = elim c.if-tag-eq0.branch [ then-tag-eq0 w ↦ absurd (omega (arith, w.if-tag-eq0.true, c.in-2.is)) | else-tag-eq0 w ↦ grind (arith, nat_tests) ] in
    c.given_from-in-2.ensures ∙ sym (read_ids g.P.Packed.unpack c.args.word c.args.wing c.if-word-ne1.false c.if-word.false formed (omega (arith, c.in-2.is)) _ c.payload_in-payload.ensures c.in-2.is)
