-- What the machine of step scripts stands for.
use Rattle.std.specs.Prelude.{◌≡◌, ◌≢◌, ℕ, ◌≤◌, List, length, slice_get, Option, Some, None}
use Rattle.ulfm_laws.specs.{Flags.{flag_meld}, declared.flag_and.FlagAnd.{FlagAnd}}
use Rattle.ulfm_model.specs.declared.{event.Caller.{Caller}, step_name.StepName.{StepName}}
use Rattle.ulfm_words.specs.Steps.{view_at, IsView, Name, Sight}
use Rattle.ulfm_model.specs.Answers.{rank_of}
use Rattle.ulfm_comm.specs.Counts.{Ranked}
use Rattle.ulfm_model.specs.Traces.{Traced, call_by, record_in}
use Rattle.ulfm_model.specs.declared.step_line.StepLine.TheVariants.{Before, Called, Failed, Finished, Stepped}
use Rattle.ulfm_lines.specs.{Progress.{Progress}, StepLines.{ScriptStep}}
use Rattle.ulfm_run.specs.Seats.{Sits, next_in}
use Rattle.ulfm_run.specs.Walks.{FlagSeat, flag_words}

-- what contracts see of the machine: its words, its pass, and the ranks in the order of their numbers
pub record Table : Type 0 where
  pub name : Name
  pub pass : Sight FlagAnd
  pub seats : List FlagSeat

-- a rank without a call
abbrev pub idle_seat : Ranked → FlagSeat
idle_seat rank = record { own = rank.own; call = None; found = 0 }

-- the world doesn't have this rank: it has no record, and no call under way
pub record IsNobody (now : Traced FlagAnd) (r : ℕ) : Type 0 where
  pub record_is : record_in now r ≡ None
  pub free : call_by now (Caller.Rank r) ≡ None

-- the seat is that of rank r, who sits so
pub record IsSeatOf (name : Name) (now : Traced FlagAnd) (pass : Sight FlagAnd) (r : ℕ) (seat : FlagSeat) : Type 0 where
  pub number : seat.own.number ≡ r
  pub sits : Sits flag_meld (flag_words name) now pass seat

-- The lines so far say what the pass has seen, and no declaration is under way. Each rank of the world sits in its seat, in the order of
-- their numbers, and the world has no others.
pub record StandsFor (name : Name) (pass : Sight FlagAnd) (seats : List FlagSeat) (now : Traced FlagAnd) : Type 0 where
  pub of : IsView flag_meld (view_at (flag_words name) pass)
  pub limits : now.limits ≡ name.limits
  pub history : now.history ≡ pass.seen
  pub no_declaration : call_by now Caller.Outside ≡ None
  pub size : length seats ≡ name.limits.ranks
  pub each : (r : ℕ) (seat : FlagSeat) → slice_get seats r ≡ Some seat → IsSeatOf name now pass r seat
  pub beyond : (r : ℕ) → name.limits.ranks ≤ r → IsNobody now r

-- the next step of a seat's call, if there is one
abbrev pub seat_next : Option FlagSeat → Option StepName
seat_next None = None
seat_next (Some seat) = next_in seat.call

-- how far the ranks' calls have come
abbrev pub progress_of : Sight FlagAnd → List FlagSeat → Progress
progress_of pass seats = record { steps = pass.steps; next = λ r. seat_next (slice_get seats r) }

-- the machine stands for what lines say
abbrev pub IsTable : Table → Traced FlagAnd → Type 0
IsTable table now = StandsFor table.name table.pass table.seats now

-- the seats of all ranks but r are as they were, also in what no line tells
abbrev pub OthersStay : ℕ → List FlagSeat → List FlagSeat → Type 0
OthersStay r old new = (q : ℕ) → q ≢ r → slice_get new q ≡ slice_get old q

-- a script's line leaves all seats as they are but that of its rank, and a declaration leaves that too
abbrev pub SeatsStay : ScriptStep → List FlagSeat → List FlagSeat → Type 0
SeatsStay (Called asked padded) old new = OthersStay (rank_of asked) old new
SeatsStay (Stepped r count) old new = OthersStay r old new
SeatsStay (Before r name) old new = OthersStay r old new
SeatsStay (Finished r) old new = OthersStay r old new
SeatsStay (Failed r) old new = new ≡ old
