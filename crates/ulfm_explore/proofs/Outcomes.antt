-- Outcomes that are confirmed one behind another.
use Rattle.std.proofs.Common.{◌≡◌, List, [], ◌∷◌, ◌++◌, map}
use Rattle.std.specs.List.{All}
use Rattle.std.proofs.lemmas.List.{map-append}
use Rattle.std.proofs.lemmas.List.Elements.{All-append, All-cons, All-nil}
use Rattle.ulfm_schedules.specs.declared.program.Program.{Program}
use Rattle.ulfm_explore.specs.{Shows.{IsOutcome}, Views.{told_of}}
use Rattle.ulfm_explore.specs.declared.confirm.Shown.{Shown}

-- one more outcome was confirmed
pub one_outcome_more : {A : Type 0} (program : Program A) (old new : List (Shown A)) (one : Shown A) → All (IsOutcome program) (map told_of old) → IsOutcome program (told_of one)
    → new ≡ old ++ one ∷ [] → All (IsOutcome program) (map told_of new)
one_outcome_more program old new one all is grown =
    rw (grown, map-append) (All-append (IsOutcome program) (map told_of old) (told_of one ∷ []) all (All-cons (IsOutcome program) (told_of one) [] is (All-nil (IsOutcome program))))
