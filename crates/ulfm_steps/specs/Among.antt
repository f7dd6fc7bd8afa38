-- A communicator's members among the ranks that are declared failed.
use Rattle.std.specs.Prelude.{ℕ, List}

-- the members of a communicator, and the ranks that were found declared failed
pub record Among : Type 0 where
  pub group : List ℕ
  pub declared : List ℕ

abbrev pub among : List ℕ → List ℕ → Among
among group declared = record { group = group; declared = declared }
