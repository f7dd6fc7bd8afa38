use Rattle.std.proofs.Common.{ap, drop, sym}
use Rattle.ulfm_script.proofs.Halves.{whole_is}
use Rattle.ulfm_script.proofs.printing.digits_behind.Goals as goal

pub returns : goal.returns
returns c = rw (c.half_text-a.ensures, c.half_text-b.ensures) (ap (drop c.args.first) (sym (whole_is c.args.bits)))
