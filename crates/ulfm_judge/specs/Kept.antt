-- What the judge keeps, as the definitions see it.
use Rattle.std.specs.Prelude.{◌≡◌, ℕ, ◌+◌, List, Option, Some, None, find, if◌then◌else◌, map, slice_get}
use Rattle.std.specs.Option.{option_and_then}
use Rattle.ulfm_model.specs.declared.{event.Caller.{Caller}, limits.Limits.{Limits}, reply.Reply.{Reply}}
use Rattle.ulfm_model.specs.{Answers.{comm_of, traits_of}, History.{History}, Records.{Held, Record, held_at}}
use Rattle.ulfm_model.specs.{declared.record.RankRecord.{RankRecord}, Kept.{FitsNext, record_of}}
use Rattle.ulfm_model.specs.declared.line.Line.{Line}
use Rattle.ulfm_model.specs.Traces.{Traced, Under, caller_of, record_in, same_caller}
use Rattle.ulfm_judge.specs.declared.calls.OpenCall.{OpenCall}

-- a call under way
abbrev pub under_of : {P A : Type 0} → OpenCall P A → Under P
under_of u = record { asked = u.asked; begun = u.begun; look = u.look; own = u.own.items }

-- what lines said
abbrev pub traced_of : {P A : Type 0} → Limits → History P → List (RankRecord A) → List (Under P) → Traced P
traced_of limits history records calls = record { limits = limits; history = history; records = map (record_of limits) records; calls = calls }

-- the place of a caller: the outside's is first
abbrev pub seat_of : Caller → ℕ
seat_of Caller.Outside = 0
seat_of (Caller.Rank r) = r + 1

-- how many places a line needs: up to that of the caller whose call begins
abbrev pub needed_by : {P : Type 0} → Line P → ℕ
needed_by (Line.Called asked padded) = seat_of (traits_of asked).by + 1
needed_by _ = 0

-- a call, where it is under way
abbrev pub open_at : {P A : Type 0} → OpenCall P A → Option (Under P)
open_at u = if u.is_open then Some (under_of u) else None

-- the call that a caller has under way
abbrev pub kept_by : {P A : Type 0} → List (OpenCall P A) → Caller → Option (Under P)
kept_by calls by = option_and_then open_at (slice_get calls (seat_of by))

-- and where it stands
abbrev pub place_by : {P A : Type 0} → List (OpenCall P A) → Caller → Option ℕ
place_by calls by = option_and_then (λ u. if u.is_open then Some (seat_of by) else None) (slice_get calls (seat_of by))

-- these are the calls under way, each at its caller's place
abbrev pub AreCalls : {P A : Type 0} → List (OpenCall P A) → List (Under P) → Type 0
AreCalls calls us = (by : Caller) → find (λ u. same_caller (caller_of u) by) us ≡ kept_by calls by

-- what is kept of calls goes on to some that pass
abbrev pub GoesWith : {P A W : Type 0} → List (OpenCall P A) → (List (Under P) → W → Type 0) → W → Type 0
GoesWith {P} calls Taken why = (us : List (Under P)) × AreCalls calls us × Taken us why

-- a request that a rank's reply says has started has a round whose next number fits
abbrev pub MayLeave : {P : Type 0} → Traced P → Caller → Under P → Reply P → Type 0
MayLeave now by u reply =
    (r : ℕ) (own : Record) (x : Held) → by ≡ Caller.Rank r → record_in now r ≡ Some own → reply ≡ Reply.Started
    → held_at own (comm_of u.asked) ≡ Some x → FitsNext ((traits_of u.asked).starts x)
