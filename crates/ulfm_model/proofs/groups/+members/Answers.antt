use Rattle.ulfm_model.proofs.Walks.{members_from, members_missing}
use Rattle.ulfm_model.proofs.groups.+members.Goals as goal

pub returns-in_default : goal.returns-in_default
returns-in_default g t c = rw (members_missing c.args.ranks c.args.history.now c.args.comm c.in_default.ensures) c.missing.ensures

pub returns : goal.returns
returns g t c =
    let is = members_from c.args.ranks c.args.history.now c.args.comm c.in-Some.at.place c.in-Some.at.parent c.in-Some.at.round c.in-Some.ensures in
    rw is (rw (c.deref-2.ensures.value, c.deref-3.ensures.value, c.in_ok-out.ensures, c.deref.ensures.value, c.in_ok-group.ensures) at c.without.ensures)
