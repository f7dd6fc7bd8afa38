use Rattle.std.proofs.Common.{List, ℕ, map, nat_eq, sym, ap, subst, ◌∙◌}
use Rattle.std.proofs.lemmas.Bool.{eqb-true}
use Rattle.std.specs.{HashMap.{get}}
use Rattle.ulfm_model.specs.{History.{same_place, says}}
use Rattle.ulfm_model.specs.declared.event.Entry.{Entry}
use Rattle.ulfm_numbers.specs.{Cells.{number_at}, Failed.{AreFailed, members_of}}
use Rattle.ulfm_numbers.proofs.{Lasting.{ok_anyway, written}, Tabling.{noted, place_is}}
use Rattle.ulfm_numbers.proofs.numbers.note_all.Goals as goal

pub returns : goal.returns
returns g c =
    let grouped = c.note_group.new.groups in
    let noted_last = c.note_spawn.result in
    let written_back = written grouped.len c.note_failure.new.groups grouped.items (c.note_failure.auto.groups ∙ c.deref_mut.ensures.len) in
    let entry = c.args.entry.now in
    let number = c.args.number in
    let arrives = λ (e : Entry g.row.P.Denot). (says e.event).arrives in
    let revokes = λ (e : Entry g.row.P.Denot). (says e.event).revokes in
    let declares = λ (e : Entry g.row.P.Denot). (says e.event).declares in
    record {
      slots = λ h tells count. ok_anyway noted_last (c.in_ok-note_slot.ensures.told h tells count);
      arrivals = λ h tells count.
          let kept = c.in_ok-note_arrival.ensures in
          ok_anyway noted_last (noted same_place place_is arrives h entry (number_at c.args.arrivals.now) (number_at c.note_arrival.new.arrivals) number c.arrival_by.result c.arrival_by.ensures kept tells count);
      revocations = λ h tells count.
          let kept = c.in_ok-note_first.ensures in
          ok_anyway noted_last (noted nat_eq eqb-true revokes h entry (get nat_eq c.args.revocations.now) (get nat_eq c.note_first.new.table) number c.revoked_by.result c.revoked_by.ensures kept tells count);
      declared = λ h tells count.
          let kept = c.in_ok-note_first-2.ensures in
          ok_anyway noted_last (noted nat_eq eqb-true declares h entry (get nat_eq c.args.declared.now) (get nat_eq c.note_first-2.new.table) number c.declared_by.result c.declared_by.ensures kept tells count);
      failures = λ h tells count. ok_anyway noted_last (c.in_ok-note_failure.ensures.told h tells count);
      spawns = λ h tells count. c.note_spawn.ensures.told h tells count;
      kept = ok_anyway noted_last c.in_ok-note_slot.ensures.kept;
      longer = ok_anyway noted_last c.in_ok-note_failure.ensures.longer;
      members =
          let same = c.note_failure.ensures.members ∙ ap (map members_of) c.deref_mut.ensures.value in
          ok_anyway noted_last (ap (map members_of) written_back ∙ (same ∙ c.in_ok-note_group.ensures.members));
      failed = λ are.
          let here = c.in_ok-note_group.ensures.failed (subst (λ (fs : List ℕ). AreFailed fs c.args.groups.now.items) (sym c.deref.ensures.value) are) in
          let there = subst (λ (fs : List ℕ). AreFailed fs grouped.items) c.deref.ensures.value here in
          let before = subst (AreFailed c.args.failures.now.items) (sym c.deref_mut.ensures.value) there in
          ok_anyway noted_last (subst (AreFailed c.note_failure.new.ranks.items) (sym written_back) (c.in_ok-note_failure.ensures.failed before));
      failed_before = λ are. ok_anyway noted_last (c.in_ok-note_failure.ensures.before are);
      spawned_before = λ are. c.note_spawn.ensures.before are;
    }
