use Rattle.std.proofs.Common.{◌≡◌, ◌+◌, ◌-◌, ◌<◌, ◌≤◌, false, true, vec_len, vec_capacity, if◌then◌else◌}
use Rattle.ulfm_words.specs.Steps.{view_of}
use Rattle.ulfm_steps.specs.Looks.{LookIs}
use Rattle.ulfm_steps.proofs.Going.{Went}
use Rattle.ulfm_steps.proofs.look.Look.advance.Given as goal

abbrev pub invariant-loop-self : goal.invariant-loop-self
invariant-loop-self g l = record {
  went : Went g.P.Meld.meld g.W.Words.alone false (view_of g.P.Packed.pack (g.W.Words.name l.words) (g.W.Words.sight l.initial.pass)) (view_of g.P.Packed.pack (g.W.Words.name l.words) (g.W.Words.sight l.pass));
  room : (g.W.Words.name l.words).limits.ranks ≤ vec_capacity l.found;
  kept : vec_capacity l.initial.found ≤ vec_capacity l.found;
  look : LookIs (g.W.Words.name l.words).limits l.self.done l.found.items (g.W.Words.sight l.pass).seen;
  steps : l.self.done ≡ false → (g.W.Words.sight l.pass).steps + vec_len l.initial.found ≤ (g.W.Words.sight l.initial.pass).steps + vec_len l.found;
  more : l.self.done ≡ true → (g.W.Words.sight l.initial.pass).steps < (g.W.Words.sight l.pass).steps;
  first : l.whole ≡ false → (g.W.Words.sight l.pass).steps ≡ (g.W.Words.sight l.initial.pass).steps;
  length : l.whole ≡ false → vec_len l.found ≡ vec_len l.initial.found;
  going : l.whole ≡ false → l.self.done ≡ false;
  bound : (g.W.Words.sight l.pass).steps + vec_len l.initial.found ≤ (g.W.Words.sight l.initial.pass).steps + (g.W.Words.name l.words).limits.ranks;
  saved : l.self.done ≡ true
      → (g.W.Words.sight l.pass).steps + ((g.W.Words.name l.words).limits.ranks - vec_len l.found - 1) + vec_len l.initial.found
      ≤ (g.W.Words.sight l.initial.pass).steps + (g.W.Words.name l.words).limits.ranks;
}

abbrev pub decreases-loop-self : goal.decreases-loop-self
decreases-loop-self g l = if l.self.done then 0 else ((g.W.Words.name l.words).limits.ranks - vec_len l.found)
