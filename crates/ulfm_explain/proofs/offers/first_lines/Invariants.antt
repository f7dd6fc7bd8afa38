use Rattle.std.proofs.Common.{◌≡◌, ◌++◌, take, drop}
use Rattle.ulfm_trace.specs.Texts.{first_lines}
use Rattle.ulfm_explain.proofs.offers.first_lines.Given as goal

abbrev pub invariant-loop-i : goal.invariant-loop-i
invariant-loop-i l = first_lines l.count l.text ≡ take l.i l.text ++ first_lines l.left (drop l.i l.text)
