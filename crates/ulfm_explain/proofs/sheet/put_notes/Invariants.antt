use Rattle.ulfm_explain.specs.Sheets.{Notes}
use Rattle.ulfm_explain.proofs.sheet.put_notes.Given as goal

abbrev pub invariant-loop-note : goal.invariant-loop-note
invariant-loop-note g l = Notes l.fn.shown.items l.shown.items
