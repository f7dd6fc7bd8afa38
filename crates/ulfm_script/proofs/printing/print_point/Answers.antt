use Rattle.std.proofs.lemmas.Fmt.{decimal_digit}
use Rattle.ulfm_script.proofs.printing.print_point.Goals as goal

pub returns-then-number-lt10 : goal.returns-then-number-lt10
returns-then-number-lt10 g c = rw (decimal_digit c.args.number c.if-number-lt10.true) c.print_digit.ensures
