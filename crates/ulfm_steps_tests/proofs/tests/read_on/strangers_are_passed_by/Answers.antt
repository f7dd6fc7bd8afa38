use Rattle.std.proofs.Common.{◌≡◌, ℕ, List, [], refl}
use mathlib.Core.List.{IsPrefix}
use Rattle.ulfm_steps_tests.proofs.tests.read_on.strangers_are_passed_by.Goals as goal

-- each list begins with nothing
nothing_begins : (seen whole : List ℕ) → seen ≡ [] → IsPrefix seen whole
nothing_begins seen whole empty = rw empty (whole, refl)

pub read-requires-clause-begins : goal.read-requires-clause-begins
read-requires-clause-begins g c = nothing_begins _ _ c.in_ok-seen.ensures.items
