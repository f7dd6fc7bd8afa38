use Rattle.std.proofs.Common.{◌∙◌}
use Rattle.ulfm_steps.proofs.Groups.{search_finds}
use Rattle.ulfm_steps.proofs.group.is_member.Goals as goal

pub returns-else-eq : goal.returns-else-eq
returns-else-eq c = c.is_ok.ensures.value ∙ search_finds c.args.group.now c.args.rank c.binary_search.result c.binary_search.ensures.position c.requires
