use Rattle.std.proofs.Common.{◌-◌, ◌≤◌, vec_len, vec_capacity, if◌then◌else◌}
use Rattle.ulfm_words.specs.Steps.{view_of, IsView}
use Rattle.ulfm_steps.specs.Looks.{LookIs}
use Rattle.ulfm_steps_tests.proofs.tests.stepped.look.Given as goal

abbrev pub invariant-loop-look : goal.invariant-loop-look
invariant-loop-look g l = record {
  of : IsView g.P.Meld.meld (view_of g.P.Packed.pack (g.W.Words.name l.words) (g.W.Words.sight l.pass));
  room : (g.W.Words.name l.words).limits.ranks ≤ vec_capacity l.found;
  kept : vec_capacity l.initial.found ≤ vec_capacity l.found;
  look : LookIs (g.W.Words.name l.words).limits l.look.done l.found.items (g.W.Words.sight l.pass).seen;
}

abbrev pub decreases-loop-look : goal.decreases-loop-look
decreases-loop-look g l = if l.look.done then 0 else ((g.W.Words.name l.words).limits.ranks - vec_len l.found)
