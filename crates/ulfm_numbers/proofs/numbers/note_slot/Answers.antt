use Rattle.std.proofs.Common.{ℕ, Some, if◌then◌else◌, refl, sym, ap, ◌∙◌}
use Rattle.ulfm_model.specs.{History.{same_place, says}, Terms.{put_at}}
use Rattle.ulfm_model.specs.declared.{event.Entry.{Entry}}
use Rattle.ulfm_model.proofs.Lists.{is_some_of, none_of}
use Rattle.ulfm_numbers.specs.Cells.{told_at}
use Rattle.ulfm_numbers.proofs.{Lasting.{put_keeps}, Tabling.{grows, kept, place_is, stays}}
use Rattle.ulfm_numbers.proofs.numbers.note_slot.Goals as goal

pub returns-in_default-clause-told : goal.returns-in_default-clause-told
returns-in_default-clause-told g c = λ h tells count q.
    let f = λ (q : ℕ × ℕ × ℕ) (e : Entry g.row.P.Denot). put_at q (says e.event).settles in
    kept same_place place_is f (λ o. o) (λ at. at) refl (λ at. refl) h c.args.entry.now (told_at c.args.slots.now) tells q (ap (put_at q) (sym c.settled_by.ensures ∙ c.in_default.is))

pub returns-then-is_some-clause-told : goal.returns-then-is_some-clause-told
returns-then-is_some-clause-told g c = λ h tells count.
    let f = λ (q : ℕ × ℕ × ℕ) (e : Entry g.row.P.Denot). put_at q (says e.event).settles in
    let found = is_some_of c.told_at.result (sym c.is_some.ensures ∙ c.if-is_some.true) in
    stays same_place place_is f (λ o. o) (λ at. at) refl (λ at. refl) h c.args.entry.now (told_at c.args.slots.now) tells c.in-Some.place c.in-Some.slot (λ q. ap (put_at q) (sym c.settled_by.ensures ∙ c.in-Some.is))
    found.0 (sym c.told_at.ensures ∙ found.1)

pub returns-clause-told : goal.returns-clause-told
returns-clause-told g c = λ h tells count.
    let f = λ (q : ℕ × ℕ × ℕ) (e : Entry g.row.P.Denot). put_at q (says e.event).settles in
    let none = none_of c.told_at.result (sym c.is_some.ensures ∙ c.if-is_some.false) in
    grows same_place place_is f (λ o. o) (λ at. at) refl (λ at. refl) h c.args.entry.now (told_at c.args.slots.now) tells c.in-Some.place c.in-Some.slot (λ q. ap (put_at q) (sym c.settled_by.ensures ∙ c.in-Some.is))
    (sym c.told_at.ensures ∙ none) (told_at c.put_told.new.slots)
    (λ q. c.in_ok-put_told.ensures q ∙ ap (λ n. if same_place c.in-Some.place q then Some (n, c.in-Some.slot) else told_at c.args.slots.now q) count)

pub returns-clause-kept : goal.returns-clause-kept
returns-clause-kept g c =
    let none = none_of c.told_at.result (sym c.is_some.ensures ∙ c.if-is_some.false) in
    put_keeps c.args.slots.now c.put_told.new.slots c.in-Some.place (c.args.number, c.in-Some.slot) (sym c.told_at.ensures ∙ none) c.in_ok-put_told.ensures
