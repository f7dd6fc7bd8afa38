use Rattle.std.proofs.Common.{sym, ◌∙◌}
use Rattle.ulfm_model.specs.History.{says}
use Rattle.ulfm_story.proofs.Stories.{one_noted}
use Rattle.ulfm_story.proofs.telling.note_decision.Goals as goal

pub returns : goal.returns
returns g c = λ ranks h tells.
    let made = rw c.in-Some-2.is at (c.in_ok-words.ensures ranks h tells) in
    one_noted ranks h c.args.row c.args.notes.now.items c.push.new.self.items c.note_across.result (says c.args.event.now).settles
    (c.in-Some.comm, c.in-Some.round, c.in-Some.field-0-2) (sym c.place_settled.ensures ∙ c.in-Some.is) c.in_ok-push.ensures.items made.0 c.note_across.ensures.row
    c.note_across.ensures.round (c.note_across.ensures.words ∙ made.1)
