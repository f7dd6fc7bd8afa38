-- Rows: whose lane a line has, and whom it points at.
use Rattle.std.specs.Prelude.{◌≡◌, ℕ, ◌+◌, min, Option, Some, None}
use Rattle.ulfm_laws.specs.declared.flag_and.FlagAnd.{FlagAnd}
use Rattle.ulfm_model.specs.Answers.{traits_of}
use Rattle.ulfm_model.specs.declared.event.{Caller.{Caller}, Event.{Event}}
use Rattle.ulfm_model.specs.declared.line.Line.{Line}
use Rattle.ulfm_story.specs.declared.rows.Row.{Row}

-- the lane of a rank: that of rank 0 is 1
abbrev pub rank_lane : ℕ → ℕ
rank_lane rank = min (rank + 1) 65535

-- the lane of a caller: the outside's is the first
abbrev pub caller_lane : Caller → ℕ
caller_lane Caller.Outside = 0
caller_lane (Caller.Rank rank) = rank_lane rank

-- the lane of a line: that of whose line it is
abbrev pub line_lane : Line FlagAnd → ℕ
line_lane (Line.Called asked padded) = caller_lane (traits_of asked).by
line_lane (Line.Looked rank count) = rank_lane rank
line_lane (Line.Happened by event) = caller_lane by
line_lane (Line.Replied by point reply) = caller_lane by

-- the lane of whom an event declares or marks
abbrev pub event_target : Event FlagAnd → Option ℕ
event_target (Event.Fail rank) = Some (rank_lane rank)
event_target (Event.Mark c k rank mark) = Some (rank_lane rank)
event_target _ = None

-- the lane that a line points at, if it does
abbrev pub line_target : Line FlagAnd → Option ℕ
line_target (Line.Happened by (Some event)) = event_target event
line_target _ = None

-- the row is of this line: in its lane, and pointing where it points
pub record IsRow (line : Line FlagAnd) (row : Row) : Type 0 where
  pub told : row.line ≡ line
  pub lane : row.lane ≡ line_lane line
  pub target : row.target ≡ line_target line
