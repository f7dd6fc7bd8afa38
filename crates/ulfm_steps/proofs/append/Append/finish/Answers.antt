use Rattle.std.proofs.Common.{refl, arith, rules}
use Rattle.ulfm_words.proofs.Growing.{prefix_self}
use Rattle.ulfm_steps.proofs.append.Append.finish.Goals as goal

pub returns-then-self-places : goal.returns-then-self-places
returns-then-self-places g c = record { of = c.requires.of; outcome = search rules steps 2000000; cached = prefix_self _; caches = refl; onward = omega arith; steps = omega arith }

pub advance-requires-clause-more : goal.advance-requires-clause-more
advance-requires-clause-more g c = search rules steps 400000
