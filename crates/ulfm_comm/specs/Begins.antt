-- How many atomic steps a call may make that is taken step by step, beside those of a whole call.
use Rattle.std.specs.Prelude.{ℕ, List, length, nat_lt, if◌then◌else◌}
use Rattle.ulfm_model.specs.Records.{Record}

-- The load in which a look reads the last of all ranks again: one where its rank has seen them all, else none.
abbrev pub reads_again : ℕ → List ℕ → ℕ
reads_again ranks seen = if nat_lt (length seen) ranks then 0 else 1

-- the same for a rank with this record: none where it was refused for good
abbrev pub loads_again : Record → ℕ
loads_again own = if own.refused then 0 else reads_again own.limits.ranks own.seen
