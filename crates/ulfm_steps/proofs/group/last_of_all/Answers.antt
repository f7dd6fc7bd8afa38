use Rattle.std.proofs.Common.{◌-◌, length, refl, slice_index_or}
use Rattle.ulfm_steps.proofs.Groups.{whole_has}
use Rattle.ulfm_steps.proofs.group.last_of_all.Goals as goal

pub returns-then-last-group : goal.returns-then-last-group
returns-then-last-group c =
    let group = c.args.group.now in
    whole_has group (slice_index_or group (length group - 1) 0) c.requires refl c.if-last-group.true
