use Rattle.ulfm_story.proofs.Stories.{notes_other}
use Rattle.ulfm_story.proofs.telling.note_arrived.Goals as goal

pub returns : goal.returns
returns g c = notes_other c.args.notes.now.items c.push.new.self.items c.note_across.result c.in_ok-push.ensures.items c.note_across.ensures.round
