use Rattle.std.proofs.Common.{◌≡◌, ◌≤◌, ◌++◌, drop, take}
use Rattle.ulfm_draw.specs.Markup.{Follows, Place, filled, filled_from, scan}
use Rattle.ulfm_draw.proofs.filling.fill.Given as goal

abbrev pub invariant-loop-byte : goal.invariant-loop-byte
invariant-loop-byte g l =
    ((place : Place) → Follows (scan place l.text.items) (scan (scan place l.fn.text.items) (take l.byte-index l.template)))
    × (l.text.items ++ filled_from l.filling.class.now l.filling.numbers.now l.filling.words.now l.next (drop l.byte-index l.template)
    ≡ l.fn.text.items ++ filled l.filling.class.now l.filling.numbers.now l.filling.words.now l.template)
    × (l.next ≤ l.byte-index)
