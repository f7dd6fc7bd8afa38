use Rattle.std.proofs.Common.{arith}
use Rattle.ulfm_script.proofs.Numerals.{number_fits}
use Rattle.ulfm_script.proofs.words.read_number.Goals as goal

pub overflow_cast-result : goal.overflow_cast-result
overflow_cast-result c =
    let h = number_fits c.read_digits.result c.args.word.now c.in_ok-value.value c.read_digits.ensures c.in_ok-value.was in omega arith
