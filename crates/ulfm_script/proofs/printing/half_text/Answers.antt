use Rattle.std.proofs.Common.{sym}
use Rattle.ulfm_script.proofs.Halves.{half_is}
use Rattle.ulfm_script.proofs.printing.half_text.Goals as goal

pub returns : goal.returns
returns c = rw (c.pair_text-a.ensures, c.pair_text-b.ensures, c.pair_text-c.ensures, c.pair_text-d.ensures) (sym (half_is c.args.bits))
