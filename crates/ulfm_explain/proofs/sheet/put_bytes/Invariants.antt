use Rattle.std.proofs.Common.{◌≡◌, ◌++◌, map, take}
use Rattle.ulfm_explain.specs.Sheets.{shown_byte}
use Rattle.ulfm_explain.proofs.sheet.put_bytes.Given as goal

abbrev pub invariant-loop-byte : goal.invariant-loop-byte
invariant-loop-byte g l = l.shown.items ≡ l.fn.shown.items ++ map shown_byte (take l.byte-index l.text)
