use Rattle.std.proofs.Common.{refl, subst}
use Rattle.std.specs.Prelude.{codes}
use Rattle.ulfm_script.specs.Words.{Gives}
use Rattle.ulfm_lines.specs.Fields.{at_field}
use Rattle.ulfm_lines.proofs.Beginnings.{line_ahead, no_line}
use Rattle.ulfm_lines.proofs.trace_line.read_head.Goals as goal

pub returns-in-Some : goal.returns-in-Some
returns-in-Some c = subst (Gives at_field c.read_replied.result) (line_ahead (codes "reply") _ _ refl c.in-Some.ensures) c.read_replied.ensures

pub returns-in-Some-behind : goal.returns-in-Some-behind
returns-in-Some-behind c = subst (Gives at_field c.read_called.result) (line_ahead (codes "call") _ _ refl c.in-Some-behind.ensures) c.read_called.ensures

pub returns-in-Some-behind-2 : goal.returns-in-Some-behind-2
returns-in-Some-behind-2 c = subst (Gives at_field c.read_looked.result) (line_ahead (codes "look") _ _ refl c.in-Some-behind-2.ensures) c.read_looked.ensures

pub returns-in-Some-behind-3 : goal.returns-in-Some-behind-3
returns-in-Some-behind-3 c = subst (Gives at_field c.read_happened.result) (line_ahead (codes "event") _ _ refl c.in-Some-behind-3.ensures) c.read_happened.ensures

pub returns-in_default-behind-3 : goal.returns-in_default-behind-3
returns-in_default-behind-3 c = no_line c.args.line.now c.in_default-behind.ensures c.in_default-behind-2.ensures c.in_default.ensures c.in_default-behind-3.ensures
