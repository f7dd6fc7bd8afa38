-- Walks through a log and an explanation: what is left of each caller's lines, and where a line takes what is kept of each rank.
use Rattle.std.specs.Prelude.{◌≡◌, ℕ, ◌==◌, Bool, false, List, [], ◌∷◌, drop, filter, get_or, Option, Some, None}
use Rattle.ulfm_model.specs.declared.event.Caller.TheVariants.{Rank}
use Rattle.ulfm_observed.specs.declared.shows.{Whose.{Whose}, Whose.TheVariants.{Of}}
use Rattle.ulfm_observed.specs.declared.stages.{Stage.{Stage}, Stage.TheVariants.{Idle}}
use Rattle.ulfm_observed.specs.{Explains.{AreHeard, is_heard_by, is_shown_by}, LogTexts.{Heard}, Stages.{Shown, next_stage}}

-- the lines of these callers in a log
abbrev pub of_callers : Whose → List Heard → List Heard
of_callers whose log = filter (λ h. is_heard_by whose h.item) log

-- what is left of the lines of these callers in a log, from a place on
abbrev pub left_of : Whose → List Heard → ℕ → List Heard
left_of whose log at = of_callers whose (drop at log)

-- The next line of these callers from a place on: what is left of theirs begins with it; or nothing is left.
abbrev pub NextIs : Whose → List Heard → ℕ → Option ℕ → Type 0
NextIs whose log from None = left_of whose log from ≡ []
NextIs whose log from (Some i) =
    (heard : Heard) × (rest : List Heard) × (drop i log ≡ heard ∷ rest) × (left_of whose log from ≡ heard ∷ of_callers whose rest)

-- A line of an explanation leads from a place in a log to another: what agrees behind both, agrees with the line before it.
abbrev pub GoesOn : Whose → List Heard → Shown → ℕ → ℕ → Type 0
GoesOn whose log shown at now =
    (rest : List Shown) → AreHeard (left_of whose log now) (filter (is_shown_by whose) rest)
    → AreHeard (left_of whose log at) (filter (is_shown_by whose) (shown ∷ rest))

-- It leads each rank from its place in a table to its place in another; a rank without a place there stands at the log's start.
abbrev pub AllGoOn : List Heard → Shown → List ℕ → List ℕ → Type 0
AllGoOn log shown places now = (r : ℕ) → GoesOn (Of (Rank r)) log shown (get_or places r 0) (get_or now r 0)

-- It takes each rank's stage in a table on; a rank without a place there is idle.
abbrev pub StagesGoOn : List Bool → Shown → List Stage → List Stage → Type 0
StagesGoOn lost shown stages now = (r : ℕ) → get_or now r Idle ≡ next_stage r (get_or lost r false) (get_or stages r Idle) shown

-- whether there is a rank, and it is this one
abbrev pub is_rank : Option ℕ → ℕ → Bool
is_rank None s = false
is_rank (Some r) s = r == s
