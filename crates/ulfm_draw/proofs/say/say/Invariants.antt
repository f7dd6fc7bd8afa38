use Rattle.std.proofs.Common.{◌≡◌, ◌++◌, take}
use Rattle.std.specs.Prelude.{flat_map}
use Rattle.ulfm_draw.specs.Words.{part_text}
use Rattle.ulfm_draw.proofs.say.say.Given as goal

abbrev pub invariant-loop-part : goal.invariant-loop-part
invariant-loop-part g l = l.words.items ≡ l.fn.words.items ++ flat_map part_text (take l.part-index l.parts)
