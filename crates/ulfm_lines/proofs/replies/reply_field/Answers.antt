use Rattle.std.proofs.Common.{◌≡◌, ◌∙◌, refl, sym}
use Rattle.std.specs.Prelude.{codes}
use Rattle.std.proofs.lemmas.Slice.Eq.{bytes_eq-Decides}
use Rattle.ulfm_script.specs.Words.{next_word}
use Rattle.ulfm_lines.specs.Fields.{over}
use Rattle.ulfm_lines.specs.LineReading.{read_plain, some_reply_of}
use Rattle.ulfm_lines.proofs.Beginnings.{reply_nowhere}
use Rattle.ulfm_lines.proofs.replies.reply_field.Goals as goal

pub returns-in_default : goal.returns-in_default
returns-in_default c = rw c.in_default.is reply_nowhere

pub returns-then-is_word : goal.returns-then-is_word
unfolding some_reply_of next_word over read_plain
returns-then-is_word c =
    let it : c.in-Some.text.now ≡ codes "pending" = (bytes_eq-Decides c.in-Some.text.now (codes "pending")).0 (sym c.is_word.ensures ∙ c.if-is_word.true) in
    rw (c.in-Some.is, it, c.alone.ensures) refl

pub returns-then-is_word-2 : goal.returns-then-is_word-2
unfolding some_reply_of next_word over read_plain
returns-then-is_word-2 c =
    let it : c.in-Some.text.now ≡ codes "started" = (bytes_eq-Decides c.in-Some.text.now (codes "started")).0 (sym c.is_word-2.ensures ∙ c.if-is_word-2.true) in
    rw (c.in-Some.is, it, c.alone-then-is_word-2.ensures) refl
