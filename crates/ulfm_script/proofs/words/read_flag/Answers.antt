use Rattle.std.proofs.Common.{inl, inr, length, sym}
use Rattle.ulfm_script.proofs.Hexadecimal.{IsLength, flag_read}
use Rattle.ulfm_script.proofs.words.read_flag.Goals as goal
use Rattle.ulfm_script.proofs.words.read_flag.Goals.{else-word-ne-HALF_DIGITS-via-then-word-ne-HALF_DIGITS+else-word-ne-WHOLE_DIGITS, else-word-ne-HALF_DIGITS-via-else-word-ne-HALF_DIGITS}

pub returns : goal.returns
returns c =
    let long : IsLength (length c.args.word.now) = elim c.else-word-ne-HALF_DIGITS.branch [
      | else-word-ne-HALF_DIGITS-via-then-word-ne-HALF_DIGITS+else-word-ne-WHOLE_DIGITS w ↦ inr w.if-word-ne-WHOLE_DIGITS.false
      | else-word-ne-HALF_DIGITS-via-else-word-ne-HALF_DIGITS w ↦ inl w.if-word-ne-HALF_DIGITS.false
    ] in
    sym (flag_read c.args.word.now c.read_hex.result c.in_ok-bits.bits long c.read_hex.ensures c.in_ok-bits.was _)
