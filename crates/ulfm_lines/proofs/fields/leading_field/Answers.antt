use Rattle.std.proofs.Common.{length, refl, sym, ◌∙◌, arith}
use Rattle.std.proofs.lemmas.Bool.{eqb-false, eqb-true}
use Rattle.ulfm_script.specs.Words.{next_word, rest_at}
use Rattle.ulfm_lines.proofs.Leading.{field_fault, field_leads, field_none, field_space, small_leads}
use Rattle.ulfm_lines.proofs.fields.leading_field.Goals as goal

pub returns-in_default-clause-read : goal.returns-in_default-clause-read
unfolding next_word
returns-in_default-clause-read c = rw c.in_default.is refl

pub returns-in-Ok-clause-read : goal.returns-in-Ok-clause-read
returns-in-Ok-clause-read c = rw c.in-Some.is (field_leads c.args.most c.in-Some.text.now c.in-Ok.field.0 (rest_at c.in-Ok.field.1) c.in-Ok.ensures)

pub returns-in-Ok-clause-small : goal.returns-in-Ok-clause-small
returns-in-Ok-clause-small c = small_leads c.args.most c.in-Some.text.now c.in-Ok.field.0 (rest_at c.in-Ok.field.1) c.in-Ok.ensures

pub returns-then-is_empty-clause-read : goal.returns-then-is_empty-clause-read
returns-then-is_empty-clause-read c =
    rw c.in-Some.is (field_none c.args.most c.in-Some.text.now (eqb-true (length c.in-Some.text.now) 0 (sym c.is_empty.ensures ∙ c.if-is_empty.true)))

pub returns-then-text-eq32-clause-read : goal.returns-then-text-eq32-clause-read
returns-then-text-eq32-clause-read c =
    let some = eqb-false (length c.in-Some.text.now) 0 (sym c.is_empty.ensures ∙ c.if-is_empty.false) in
    rw c.in-Some.is (field_space c.args.most c.in-Some.text.now (omega (arith, some)) c.if-text-eq32.true)

pub returns-else-text-eq32-clause-read : goal.returns-else-text-eq32-clause-read
returns-else-text-eq32-clause-read c =
    let some = eqb-false (length c.in-Some.text.now) 0 (sym c.is_empty.ensures ∙ c.if-is_empty.false) in
    rw c.in-Some.is (field_fault c.args.most c.in-Some.text.now c.in-Err.kind c.in-Err.ensures some c.if-text-eq32.false)
