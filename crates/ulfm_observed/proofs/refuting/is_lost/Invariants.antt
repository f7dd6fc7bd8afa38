use Rattle.std.proofs.Common.{◌≡◌, drop}
use Rattle.std.specs.Prelude.{map}
use Rattle.ulfm_observed.specs.{Explains.{is_lost}, LogTexts.{heard_of}}
use Rattle.ulfm_observed.proofs.refuting.is_lost.Given as goal

abbrev pub invariant-loop-line : goal.invariant-loop-line
invariant-loop-line g l = is_lost l.fn.rank (map heard_of (drop l.line-index l.lines)) ≡ is_lost l.fn.rank (map heard_of l.lines)
