use Rattle.std.proofs.Common.{refl}
use Rattle.ulfm_script.proofs.Halves.{pair_at}
use Rattle.ulfm_script.proofs.printing.pair_text.Goals as goal

pub returns : goal.returns
returns c = let digits = pair_at c.args.byte c.requires in rw (digits.0, digits.1) refl
