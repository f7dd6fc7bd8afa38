-- What a shrink's poll prepares for the communicator that it makes, and when a rank has room for that.
use Rattle.std.specs.Prelude.{ℕ, List, [], ◌≡◌, ◌≤◌, length}
use Rattle.ulfm_laws.specs.Ranges.{payload_bits}
use Rattle.ulfm_model.specs.Records.{Held}

-- for so many communicators a rank has room from the start
abbrev pub few_comms : ℕ
few_comms = 4

-- the new communicator's members, and for how many communicators room was taken
pub record Prepared : Type 0 where
  pub members : List ℕ
  pub places : ℕ

-- nothing is prepared
abbrev pub unprepared : Prepared
unprepared = record { members = []; places = 0 }

-- A rank that holds just as many communicators as it has room for from the start has places for all that it may hold. Any other has room for one more
-- itself.
abbrev pub HasPlaces : List Held → ℕ → Type 0
HasPlaces held places = length held ≡ few_comms → payload_bits ≤ places
