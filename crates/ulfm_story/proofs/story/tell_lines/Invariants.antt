use Rattle.std.proofs.Common.{[]}
use Rattle.ulfm_model.specs.declared.limits.Limits.{Limits}
use Rattle.ulfm_story.specs.Tellings.{IsTold}
use Rattle.ulfm_story.proofs.Stories.{ToldSo}
use Rattle.ulfm_story.proofs.story.tell_lines.Given as goal

abbrev pub invariant-lines : goal.invariant-lines
invariant-lines g l = (limits : Limits) → IsTold limits l.fn.telling [] → ToldSo limits l.fn.text l.left l.number l.telling
