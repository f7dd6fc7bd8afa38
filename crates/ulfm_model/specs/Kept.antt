-- What the program keeps of a rank, as the definitions see it.
use Rattle.std.specs.{Prelude.{⊤, ◌<◌, ◌+◌, ◌^◌, false, List, [], Option, Some, None}}
use Rattle.ulfm_model.specs.declared.{call.Request.{Request}, call.Request.TheVariants.{Agree, Shrink, Barrier}, limits.Limits.{Limits}}
use Rattle.ulfm_model.specs.declared.{record.RankRecord.{RankRecord}}
use Rattle.ulfm_model.specs.Records.{Held, Record}

-- a rank's record, under the object's limits
abbrev pub record_of : {A : Type 0} → Limits → RankRecord A → Record
record_of limits own = record { number = own.number; limits = limits; held = own.held.items; seen = own.seen.items; refused = own.refused }

-- a record as far as the tests of a call read it: its limits and what it holds
abbrev pub tested : Limits → List Held → Record
tested limits held = record { number = 0; limits = limits; held = held; seen = []; refused = false }

-- the round after a request's has a number
abbrev pub HasNext : Request → Type 0
HasNext (Agree k) = k + 1 < 2 ^ 16
HasNext (Shrink k) = k + 1 < 2 ^ 16
HasNext (Barrier k) = k + 1 < 2 ^ 16

-- so does that of a call that starts one, if it does
abbrev pub FitsNext : Option Request → Type 0
FitsNext None = ⊤
FitsNext (Some request) = HasNext request
