use Rattle.ulfm_explain.proofs.Telling.{note_put}
use Rattle.ulfm_explain.proofs.sheet.put_note.Goals as goal

pub returns : goal.returns
returns g c =
    note_put c.args.shown.now.items c.extend_from_slice.new.self.items c.put_bytes.new.shown.items c.push.new.self.items c.args.note.now
    c.in_ok-extend_from_slice.ensures.items c.in_ok-put_bytes.ensures c.in_ok-push.ensures.items
