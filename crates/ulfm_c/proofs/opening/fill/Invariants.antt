use Rattle.std.proofs.Common.{◌≡◌, ◌+◌, ◌++◌, length, map, take}
use Rattle.std.specs.Prelude.{Some}
use Rattle.ulfm_c.specs.Opens.{parties_in}
use Rattle.ulfm_c.proofs.opening.fill.Given as goal

abbrev pub invariant-loop-handle : goal.invariant-loop-handle
invariant-loop-handle l =
    (parties_in (take l.handle-index l.handles) ++ map (λ b. Some b.value) l.left.rest.items ≡ map (λ b. Some b.value) l.fn.parties.items)
    × (l.handle-index + length l.left.rest.items ≡ length l.handles)
