use Rattle.std.proofs.Common.{take}
use Rattle.ulfm_script.specs.Buffers.{HasNoNewline}
use Rattle.ulfm_story.proofs.text.split_line.Given as goal

abbrev pub invariant-loop-i : goal.invariant-loop-i
invariant-loop-i l = HasNoNewline (take l.i l.text)
