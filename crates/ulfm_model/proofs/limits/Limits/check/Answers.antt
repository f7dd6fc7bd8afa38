use Rattle.std.proofs.Common.{rules}
use Rattle.ulfm_model.proofs.limits.Limits.check.Goals as goal

pub returns-then-size-gt-MAX_SIZE : goal.returns-then-size-gt-MAX_SIZE
returns-then-size-gt-MAX_SIZE c = search rules steps 100000

pub returns : goal.returns
returns c = search rules steps 100000
