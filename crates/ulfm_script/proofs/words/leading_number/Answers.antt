use Rattle.std.proofs.Common.{arith, sym, ◌∙◌}
use Rattle.ulfm_script.proofs.Leading.{no_digit, no_room, none_before, none_last, number_before, number_last}
use Rattle.ulfm_script.proofs.words.leading_number.Goals as goal

pub returns-in_default : goal.returns-in_default
returns-in_default c =
    let i = c.loop-i.invariant in
    no_digit c.args.most c.loop-i.i c.args.text.now c.loop-i.value c.loop-i-test.true c.if-byte-eq32.false (sym c.digit_value.ensures ∙ c.in_default.is) i.word i.value

pub returns-then-i-most : goal.returns-then-i-most
returns-then-i-most c = no_room c.args.most c.loop-i.i c.args.text.now c.loop-i-test.true c.if-byte-eq32.false c.if-i-most.true c.loop-i.invariant.word

pub returns-then-not-are_plain : goal.returns-then-not-are_plain
returns-then-not-are_plain c =
    none_before c.args.most c.loop-i.i c.args.text.now c.loop-i-test.true c.if-byte-eq32.true (sym c.are_plain.ensures ∙ c.if-not-are_plain.true) c.loop-i.invariant.word

pub returns-then-byte-eq32 : goal.returns-then-byte-eq32
returns-then-byte-eq32 c =
    let i = c.loop-i.invariant in
    number_before c.args.most c.loop-i.i c.args.text.now c.loop-i.value c.loop-i-test.true c.if-byte-eq32.true i.few (sym c.are_plain.ensures ∙ c.if-not-are_plain.false) i.word i.value

pub returns-then-not-are_plain-2 : goal.returns-then-not-are_plain-2
returns-then-not-are_plain-2 c =
    none_last c.args.most c.loop-i.i c.args.text.now c.loop-i-test.false (sym c.are_plain-2.ensures ∙ c.if-not-are_plain-2.true) c.loop-i.invariant.word

pub returns : goal.returns
returns c =
    let i = c.loop-i.invariant in
    number_last c.args.most c.loop-i.i c.args.text.now c.loop-i.value (omega (arith, c.loop-i-test.false, c.loop-i.auto.i-end)) i.few (sym c.are_plain-2.ensures ∙ c.if-not-are_plain-2.false) i.word i.value
