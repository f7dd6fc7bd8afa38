-- Cells at places: by communicator, by round and by rank. Where nothing was put there is an empty cell.
use Rattle.std.specs.Prelude.{ℕ, Vec, slice_get}
use Rattle.std.specs.Option.{option_map_or}
use Rattle.ulfm_numbers.specs.declared.grids.Grid.{Grid}

-- the cell at a rank of a round
abbrev pub in_round : {C A : Type 0} → C → Vec C A → ℕ → C
in_round empty ranks r = option_map_or (λ cell. cell) (slice_get ranks.items r) empty

-- the cell at a rank of a communicator's round
abbrev pub in_rounds : {C A : Type 0} → C → Vec (Vec C A) A → ℕ → ℕ → C
in_rounds empty rounds k r = option_map_or (λ ranks. in_round empty ranks r) (slice_get rounds.items k) empty

-- the cell at a place
abbrev pub cell_at : {C A : Type 0} → C → Grid C A → ℕ × ℕ × ℕ → C
cell_at empty grid place = option_map_or (λ rounds. in_rounds empty rounds (place.1) (place.2)) (slice_get grid.comms.items (place.0)) empty
