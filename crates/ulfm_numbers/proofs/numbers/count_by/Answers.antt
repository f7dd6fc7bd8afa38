use Rattle.std.proofs.Common.{sym, arith}
use Rattle.ulfm_numbers.proofs.Counting.{before_later}
use Rattle.ulfm_numbers.proofs.numbers.count_by.Goals as goal

pub returns-then-end-point : goal.returns-then-end-point
returns-then-end-point c = sym (before_later c.args.end c.args.point c.args.numbers.now (omega (arith, c.if-end-point.true)) c.requires)
