use Rattle.std.proofs.Common.{rules}
use Rattle.ulfm_numbers.proofs.numbers.Numbers.note_settled.Goals as goal

pub returns : goal.returns
returns g c = λ ranks h tells. c.note_decided.ensures ranks h (search rules)
