use Rattle.std.proofs.Common.{sym, ap₂, ◌∙◌, List}
use Rattle.std.specs.Prelude.{ℕ}
use Rattle.ulfm_numbers.specs.Failed.{members_of}
use Rattle.ulfm_numbers.proofs.Failing.{member_failed, other_failed}
use Rattle.ulfm_numbers.proofs.groups.declare.Goals as goal

pub returns-in_ok-push-2-clause-failed : goal.returns-in_ok-push-2-clause-failed
returns-in_ok-push-2-clause-failed g c = λ failures count told.
    let group = c.args.group.now in
    let is = sym (rw c.as_slice.ensures.value at c.has_member.ensures) ∙ c.if-has_member.true in
    ap₂ (λ (xs ys : List ℕ). (xs, ys)) c.in_ok-push.ensures.items c.in_ok-push-2.ensures.items
    ∙ member_failed (members_of group) failures c.args.rank group.failed.items group.places.items c.args.before is count told

pub returns-else-has_member-clause-failed : goal.returns-else-has_member-clause-failed
returns-else-has_member-clause-failed g c = λ failures count told.
    let group = c.args.group.now in
    let isnt = sym (rw c.as_slice.ensures.value at c.has_member.ensures) ∙ c.if-has_member.false in
    other_failed (members_of group) failures c.args.rank group.failed.items group.places.items isnt told
