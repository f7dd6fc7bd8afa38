-- The words that ask for a filter, and what is done for other words.
use Rattle.std.specs.Prelude.{◌≡◌, ℕ, List, [], ◌∷◌, codes}
use Rattle.std.specs.Io.KnownBytes.{Keeps}
use Rattle.ulfm_filters.specs.declared.filter.Filter.{Filter}
use Rattle.ulfm_filters.specs.declared.filter.Filter.TheVariants.{Calls, Echoed, Steps, Migrate, Check}
use Rattle.ulfm_script.specs.Ends.{KnownText}

-- the words behind the program's name that ask for a filter
abbrev pub words_of : Filter → List (List ℕ)
words_of Calls = codes "run" ∷ []
words_of Echoed = codes "run" ∷ codes "--echo" ∷ []
words_of Steps = codes "run" ∷ codes "--steps" ∷ []
words_of Migrate = codes "migrate" ∷ []
words_of Check = codes "check" ∷ []

-- nothing was read or printed, and the status is that of a bad command line
abbrev pub IsBadCommand : KnownText → KnownText → KnownText → KnownText → ℕ → Type 0
IsBadCommand known left old new status = (status ≡ 2) × Keeps known left × Keeps old new
