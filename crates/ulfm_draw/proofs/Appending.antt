-- What is appended.
use Rattle.std.proofs.Common.{◌≡◌, ◌∙◌, ℕ, List, ◌++◌, ap, append_assoc}
use Rattle.ulfm_draw.specs.Words.{Appends}

pub appends_by : (old new more : List ℕ) → new ≡ old ++ more → Appends old new
appends_by old new more is = record { more = more; behind = is }

-- one after another
pub appends_then : (old middle new : List ℕ) → Appends old middle → Appends middle new → Appends old new
appends_then old middle new first next =
    record { more = first.more ++ next.more; behind = next.behind ∙ ap (λ (xs : List ℕ). xs ++ next.more) first.behind ∙ append_assoc old first.more next.more }
