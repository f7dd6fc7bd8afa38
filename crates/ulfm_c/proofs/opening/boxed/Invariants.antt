use Rattle.std.proofs.Common.{◌≡◌, ◌++◌, map}
use Rattle.std.specs.Prelude.{Some}
use Rattle.ulfm_c.specs.Opens.{parties_of}
use Rattle.ulfm_c.proofs.opening.boxed.Given as goal

abbrev pub invariant-loop-member : goal.invariant-loop-member
invariant-loop-member l = map (λ b. Some b.value) l.parties.items ++ parties_of l.member-iterator.rest.items ≡ parties_of l.fn.members.items
