-- What cells say: whether something settled a place, when, and by what it did; and when something happened.
use Rattle.std.specs.Prelude.{ℕ, zero, suc, Option, Some, None}
use Rattle.ulfm_model.specs.declared.contribution.{Contribution.{Contribution}, Offer.{Offer}, Slot.{Slot}}
use Rattle.ulfm_numbers.specs.declared.{cells.Cell.{Cell}, cells.Counts.{Counts}, grids.Grid.{Grid}}
use Rattle.ulfm_numbers.specs.Grids.{cell_at}

-- the counts of a contribution
abbrev pub counts_of : {P : Type 0} → Contribution P → Counts
counts_of given = record { known = given.known; acked = given.acked; within = given.within }

-- a contribution, by its counts and what it offers
abbrev pub given_of : {P : Type 0} → Counts → Offer P → Contribution P
given_of counts offer = record { offer = offer; known = counts.known; acked = counts.acked; within = counts.within }

-- the number of the event that settled a place, and what it is settled by
abbrev pub told_by : {P : Type 0} → Cell P → Option (ℕ × Slot P)
told_by Cell.Empty = None
told_by (Cell.Marked mark number) = Some (number, Slot.Mark mark)
told_by (Cell.Flag counts number flag) = Some (number, Slot.Given (given_of counts (Offer.Flag flag)))
told_by (Cell.Ctx counts number mask) = Some (number, Slot.Given (given_of counts (Offer.Ctx mask)))

-- the number of an event, where 0 says that there is none, and each greater word the one below it
abbrev pub number_by : ℕ → Option ℕ
number_by zero = None
number_by (suc n) = Some n

-- what settled a place, with the number of its event
abbrev pub told_at : {P A : Type 0} → Grid (Cell P) A → ℕ × ℕ × ℕ → Option (ℕ × Slot P)
told_at slots place = told_by (cell_at Cell.Empty slots place)

-- the number of a place's event
abbrev pub number_at : {A : Type 0} → Grid ℕ A → ℕ × ℕ × ℕ → Option ℕ
number_at numbers place = number_by (cell_at 0 numbers place)
