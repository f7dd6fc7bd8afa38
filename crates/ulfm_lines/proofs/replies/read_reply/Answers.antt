use Rattle.std.proofs.Common.{refl, sym, subst}
use Rattle.std.specs.Prelude.{codes}
use Rattle.ulfm_script.specs.Words.{Gives}
use Rattle.ulfm_lines.specs.Fields.{at_field}
use Rattle.ulfm_lines.proofs.Beginnings.{plain_ahead, reply_gives}
use Rattle.ulfm_lines.proofs.replies.read_reply.Goals as goal

pub returns-in-Some : goal.returns-in-Some
returns-in-Some c = reply_gives at_field c.read_agreed.result (codes "agreed") _ _ refl c.in-Some.ensures c.read_agreed.ensures

pub returns-in-Some-behind : goal.returns-in-Some-behind
returns-in-Some-behind c = reply_gives at_field c.read_shrunk.result (codes "shrunk") _ _ refl c.in-Some-behind.ensures c.read_shrunk.ensures

pub returns-in-Some-behind-2 : goal.returns-in-Some-behind-2
returns-in-Some-behind-2 c = reply_gives at_field c.read_failed.result (codes "failed") _ _ refl c.in-Some-behind-2.ensures c.read_failed.ensures

pub returns-in-Some-behind-3 : goal.returns-in-Some-behind-3
returns-in-Some-behind-3 c = reply_gives at_field c.read_acked.result (codes "acked") _ _ refl c.in-Some-behind-3.ensures c.read_acked.ensures

pub returns-in-Some-behind-4 : goal.returns-in-Some-behind-4
returns-in-Some-behind-4 c = reply_gives at_field c.read_refused.result (codes "refused") _ _ refl c.in-Some-behind-4.ensures c.read_refused.ensures

pub returns-in_default-behind-4 : goal.returns-in_default-behind-4
returns-in_default-behind-4 c = subst (Gives at_field c.read_alone.result) (sym (plain_ahead c.args.text.now c.in_default.ensures c.in_default-behind.ensures c.in_default-behind-2.ensures
    c.in_default-behind-3.ensures c.in_default-behind-4.ensures)) c.read_alone.ensures
