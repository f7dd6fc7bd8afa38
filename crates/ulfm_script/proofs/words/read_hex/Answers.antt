use Rattle.std.proofs.Common.{arith, sym, ◌∙◌, slice_index_or}
use Rattle.ulfm_script.proofs.{Hexadecimal.{digit_found}, Powers.{hex_fits}}
use Rattle.ulfm_script.proofs.words.read_hex.Goals as goal

pub overflow_mul-value : goal.overflow_mul-value
overflow_mul-value c =
    let room = hex_fits c.loop-byte.value c.loop-byte.byte-index c.loop-byte.invariant.below (omega (arith, c.loop-byte-test.true, c.requires)) in
    omega (arith, room)

pub overflow_add-value : goal.overflow_add-value
overflow_add-value c =
    let room = hex_fits c.loop-byte.value c.loop-byte.byte-index c.loop-byte.invariant.below (omega (arith, c.loop-byte-test.true, c.requires)) in
    let digit = digit_found (slice_index_or c.args.word.now c.loop-byte.byte-index 0) c.in-Some.digit (sym c.hex_value.ensures ∙ c.in-Some.is) in
    omega (arith, room, digit.0)
