use Rattle.std.proofs.Common.{sym, ◌∙◌}
use Rattle.std.specs.HashMap.{get}
use Rattle.ulfm_model.specs.History.{same_place}
use Rattle.ulfm_story.proofs.Rounding.{none_put, place_put}
use Rattle.ulfm_story.proofs.rounds.note_settled.Goals as goal

pub returns-in_ok-insert : goal.returns-in_ok-insert
returns-in_ok-insert g c = λ h has.
    place_put h c.args.entry.now (get same_place c.args.settled.now) has (get same_place c.insert.new.self) c.in-Some.place 0 c.in_ok-insert.ensures.updates.0
    (sym c.place_settled.ensures ∙ c.in-Some.is)

pub returns-in_default : goal.returns-in_default
returns-in_default g c = λ h has. none_put h c.args.entry.now (get same_place c.args.settled.now) has (sym c.place_settled.ensures ∙ c.in_default.is)
