-- What stands in a program of ranks, and what a rank does by itself between its calls.
use Rattle.std.specs.Prelude.{ℕ, ◌+◌, min, Bool, false, if◌then◌else◌, List, [], length, Option, Some, None, option_and_then, option_map, slice_get, unwrap_or}
use Rattle.ulfm_laws.specs.declared.flag_and.FlagAnd.{FlagAnd}
use Rattle.ulfm_model.specs.declared.call.Call.{Call}
use Rattle.ulfm_model.specs.declared.call.Call.TheVariants as call
use Rattle.ulfm_schedules.specs.declared.program.{Ask.{Ask}, May.{May}, Op.{Op}, Program.{Program}}
use Rattle.ulfm_schedules.specs.declared.program.Ask.TheVariants as ask
use Rattle.ulfm_schedules.specs.declared.program.Op.TheVariants as op
use Rattle.ulfm_schedules.specs.declared.program.May.TheVariants.{Stay}
use Rattle.ulfm_schedules.specs.declared.moves.Move.{Move}
use Rattle.ulfm_schedules.specs.declared.moves.Move.TheVariants as move
use Rattle.ulfm_schedules.specs.Words.{has_words}

-- a rank's operation at a place; none behind its last one
abbrev pub op_at : {A : Type 0} → Program A → ℕ → ℕ → Option Op
op_at program rank place = option_and_then (λ ops. slice_get ops.items place) (slice_get program.ranks.items rank)

-- whether, and how, a rank may be declared from outside
abbrev pub may_at : {A : Type 0} → Program A → ℕ → May
may_at program rank = unwrap_or (slice_get program.may.items rank) Stay

-- the text of a number; an empty one where there is none
abbrev pub text_at : {A : Type 0} → Program A → ℕ → List ℕ
text_at program number = unwrap_or (option_map (λ text. text.items) (slice_get program.texts.items number)) []

-- the call by which a rank asks for what it has begun
abbrev pub poll_of : ℕ → ℕ → Call FlagAnd
poll_of rank comm = call.Poll rank comm

-- the call of a rank on a communicator that asks for this
abbrev pub call_of : Ask → ℕ → ℕ → Call FlagAnd
call_of ask.GetFailed rank comm = call.GetFailed rank comm
call_of (ask.Ack count) rank comm = call.Ack rank comm count
call_of (ask.Agree value) rank comm = call.Agree rank comm value
call_of ask.Shrink rank comm = call.Shrink rank comm
call_of ask.Barrier rank comm = call.Barrier rank comm
call_of ask.Poll rank comm = poll_of rank comm
call_of ask.Wait rank comm = poll_of rank comm
call_of ask.Revoke rank comm = call.Revoke rank comm
call_of ask.IsRevoked rank comm = call.IsRevoked rank comm
call_of ask.Free rank comm = call.Free rank comm

-- the place behind one
abbrev pub next_of : ℕ → ℕ
next_of place = min (place + 1) 65535

-- words stand in the last reply; there may be none yet
abbrev pub said_last : Option (List ℕ) → List ℕ → Bool
said_last None words = false
said_last (Some reply) words = has_words reply words

-- what an operation lets a rank do, behind this last reply
abbrev pub move_of : {A : Type 0} → Program A → ℕ → Option (List ℕ) → Option Op → Move
move_of program place last None = move.End
move_of program place last (Some (op.Call ask on quiet)) = move.Call
move_of program place last (Some (op.Declare rank quiet)) = move.Call
move_of program place last (Some (op.Go to)) = move.Go to
move_of program place last (Some (op.If text to)) = move.Go (if said_last last (text_at program text) then to else next_of place)
move_of program place last (Some (op.Say text)) = move.Say text (next_of place)
move_of program place last (Some op.End) = move.End

-- what a rank's program does at a place, behind this last reply
abbrev pub move_at : {A : Type 0} → Program A → ℕ → ℕ → Option (List ℕ) → Move
move_at program rank place last = move_of program place last (op_at program rank place)

-- so many moves at most lead a rank from one call to the next
abbrev pub most_moves : {A : Type 0} → Program A → ℕ → ℕ
most_moves program rank = unwrap_or (option_map (λ ops. min (length ops.items + 1) 65535) (slice_get program.ranks.items rank)) 0
