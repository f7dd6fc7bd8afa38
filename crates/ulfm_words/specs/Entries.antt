-- The event of a step, read off its place, its word and its half.
use Rattle.std.specs.Prelude.{ℕ, ◌-◌, ◌/◌, ◌%◌, Option, Some, None}
use Rattle.ulfm_model.specs.declared.{contribution.Slot.{Slot}, contribution.Slot.TheVariants.{Given, Mark as Marked}, event.Caller.{Caller}}
use Rattle.ulfm_model.specs.declared.{event.Entry.{Entry}, event.Event.{Event}, event.Event.TheVariants.{Fail, Settle, Mark, Arrive, Revoke, Spawn}}
use Rattle.ulfm_model.specs.declared.{place.Place.{Place}}
use Rattle.ulfm_model.specs.declared.{place.Place.TheVariants.{List as ListAt, Comm as CommAt, Revoked as RevokedAt, Slot as SlotAt, Arrival as ArrivalAt}}
use Rattle.ulfm_words.specs.declared.step.Step.{Step}
use Rattle.ulfm_words.specs.Slots.{number_in, slot_in}

-- what puts this into a slot
abbrev pub put_of : {P : Type 0} → ℕ → ℕ → ℕ → Slot P → Event P
put_of c k r (Marked mark) = Mark c k r mark
put_of c k r (Given given) = Settle c k r given

abbrev pub put_if : {P : Type 0} → ℕ → ℕ → ℕ → Option (Slot P) → Option (Event P)
put_if c k r None = None
put_if c k r (Some slot) = Some (put_of c k r slot)

-- the event that sets this word at this place, with this half in its wing, if one does
abbrev pub event_in : {P : Type 0} → (ℕ → Option P) → Place → ℕ → ℕ → Option (Event P)
event_in unpack (ListAt i) w half = Some (Fail (w - 1))
event_in unpack (CommAt j) w half = Some (Spawn j ((w - 1) / 4096) ((w - 1) % 4096))
event_in unpack (RevokedAt c) w half = Some (Revoke c)
event_in unpack (SlotAt c k r) w half = put_if c k r (slot_in unpack (number_in w half))
event_in unpack (ArrivalAt c k r) w half = Some (Arrive c k r)

abbrev pub entry_by : {P : Type 0} → Caller → Option (Event P) → Option (Entry P)
entry_by caller None = None
entry_by caller (Some e) = Some (record { by = caller; event = e })

-- the event of a step, with its caller's name
abbrev pub entry_of : {P : Type 0} → (ℕ → Option P) → Step → Option (Entry P)
entry_of unpack s = entry_by s.by (event_in unpack s.place s.word s.half)
