-- What a search says of itself.
use Rattle.std.specs.Prelude.{ℕ, Bool}
use Rattle.ulfm_schedules.specs.declared.searched.Searched.{Searched}

-- whether it tried all schedules
abbrev pub whole_of : {A : Type 0} → Searched A → Bool
whole_of searched = searched.found.is_whole

-- how many states came up
abbrev pub states_of : {A : Type 0} → Searched A → ℕ
states_of searched = searched.found.states
