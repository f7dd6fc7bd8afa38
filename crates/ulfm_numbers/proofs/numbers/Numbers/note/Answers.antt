use Rattle.std.proofs.Common.{◌∷◌, ◌++◌, [], map, arith, length-append}
use Rattle.std.specs.List.{cons_option}
use Rattle.ulfm_model.specs.History.{says}
use Rattle.ulfm_numbers.specs.{Failed.{members_of}, Groups.{items_of}, Telling.{seen_at}}
use Rattle.ulfm_numbers.proofs.{Lasting.{are_done_later, ok_anyway}, Seeing.{groups_noted, seen_now}}
use Rattle.ulfm_numbers.proofs.numbers.Numbers.note.Goals as goal

pub invariant_of-self-clause-rounds_done : goal.invariant_of-self-clause-rounds_done
invariant_of-self-clause-rounds_done g c =
    let old = c.args.self.now in
    let noted = c.note_all-noted.ensures in
    let new = c.note_all-noted.new in
    are_done_later g.P.Meld.meld old.rounds old.slots new.slots old.failures.items (cons_option (says c.args.entry.now.event).declares []) new.failures.items (map members_of old.groups.items)
    (cons_option (items_of c.in_ok-made.made) []) (map members_of new.groups.items) (rw c.in-Ok.is at noted.kept) (rw c.in-Ok.is at noted.longer) (rw c.in-Ok.is at noted.members) old.rounds_done

pub returns-in-Ok : goal.returns-in-Ok
returns-in-Ok g c = λ ranks h tells.
    let old = c.args.self.now in
    let noted = c.note_all-noted.ensures in
    ok_anyway c.note_settled.result (c.note_settled.ensures ranks (h ++ c.args.entry.now ∷ []) (record {
      slots = rw c.in-Ok.is at (noted.slots h tells.slots tells.count);
      arrivals = rw c.in-Ok.is at (noted.arrivals h tells.arrivals tells.count);
      revocations = rw c.in-Ok.is at (noted.revocations h tells.revocations tells.count);
      declared = rw c.in-Ok.is at (noted.declared h tells.declared tells.count);
      failures = rw c.in-Ok.is at (noted.failures h tells.failures tells.count);
      spawns = rw c.in-Ok.is at (noted.spawns h tells.spawns tells.count);
      groups = groups_noted ranks (map members_of old.groups.items) (map members_of c.note_all-noted.new.groups.items) h c.args.entry.now (seen_at old old.count) c.in_ok-made.made tells.groups
          (seen_now ranks old h tells) c.in_ok-made.ensures (rw c.in-Ok.is at noted.members);
      count = omega (arith, tells.count, length-append h (c.args.entry.now ∷ []));
    }))
