use Rattle.ulfm_explain.proofs.Telling.{notes_then}
use Rattle.ulfm_explain.proofs.sheet.put_notes.Goals as goal

pub loop-note-preserved : goal.loop-note-preserved
loop-note-preserved g c =
    notes_then c.args.shown.now.items c.loop-note.shown.items c.put_note.new.shown.items c.loop-note.invariant c.in_ok-put_note.ensures
