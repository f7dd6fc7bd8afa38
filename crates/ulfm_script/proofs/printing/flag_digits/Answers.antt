use Rattle.std.proofs.Common.{◌∙◌}
use Rattle.ulfm_script.specs.Digits.{flag_text}
use Rattle.ulfm_script.proofs.Halves.{printed_is}
use Rattle.ulfm_script.proofs.printing.flag_digits.Goals as goal

pub returns : goal.returns
unfolding flag_text
returns c = (rw c.printed_digits.ensures at c.digits_behind.ensures) ∙ printed_is c.args.flag
