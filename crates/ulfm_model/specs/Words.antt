-- The words of a world: how many there are, which limits may be opened, and which word each event sets.
use Rattle.std.specs.{Prelude.{ℕ, zero, suc, ◌+◌, ◌*◌, ◌/◌, ◌%◌, ◌^◌, ◌<◌, ◌≤◌, if◌then◌else◌, length, slice_get}, Option.{option_map_or}}
use Rattle.ulfm_model.specs.declared.{contribution.Offer.{Offer}, contribution.Slot.{Slot}, event.Event.{Event}, place.Place.{Place}}
use Rattle.ulfm_model.specs.declared.{limits.Limits.{Limits}, limits.OpenFault.{OpenFault}}
use Rattle.ulfm_model.specs.History.{History, failures, has_arrived, is_revoked, slot, spawns}

-- a word for each rank, two for each communicator, and two for each rank in each round of each communicator
abbrev pub size_of : Limits → ℕ
size_of limits = limits.ranks + 2 * limits.comms + 2 * limits.comms * limits.rounds * limits.ranks

-- each limit is in its range
pub record IsInRange (limits : Limits) : Type 0 where
  pub some_ranks : 0 < limits.ranks
  pub ranks : limits.ranks ≤ 1024
  pub some_comms : 0 < limits.comms
  pub comms : limits.comms ≤ 256
  pub some_rounds : 0 < limits.rounds
  pub rounds : limits.rounds ≤ 4096

-- a world of these limits may be opened
pub record MayOpen (limits : Limits) : Type 0 where
  pub in_range : IsInRange limits
  pub small : size_of limits ≤ 4194304

-- this fault is the first that these limits have
abbrev pub IsUnfit : Limits → OpenFault → Type 0
IsUnfit limits OpenFault.OutOfRange = ¬ IsInRange limits
IsUnfit limits OpenFault.TooLarge = IsInRange limits × (4194304 < size_of limits)
IsUnfit limits OpenFault.OutOfMemory = ⊥

-- a slot's number, from its lowest bit on: a 1, two bits for the tag, 11 for known, 11 for acked, and the payload's bits
abbrev pub packed : ℕ → ℕ → ℕ → ℕ → ℕ
packed tag known acked payload = 1 + tag * 2 + known * 2 ^ 3 + acked * 2 ^ 14 + payload * 2 ^ 25

-- how many bits of a payload stand in the first word of a slot or a block; its wing has the others
abbrev pub half_bits : ℕ
half_bits = 32

-- how many bits a first word has: those before the payload, and half of the payload
abbrev pub word_bits : ℕ
word_bits = 25 + half_bits

-- the first word of a number: its lowest bits
abbrev pub first_word : ℕ → ℕ
first_word number = number % 2 ^ word_bits

-- what of a number its first word hasn't: the upper half of the payload
abbrev pub upper_half : ℕ → ℕ
upper_half number = number / 2 ^ word_bits

-- the wing that has this half: a 1, and then the half
abbrev pub wing_word : ℕ → ℕ
wing_word half = 1 + 2 * half

-- the number of an offer with these counts
abbrev pub offer_number : {P : Type 0} → (P → ℕ) → ℕ → ℕ → Offer P → ℕ
offer_number pack known acked (Offer.Flag flag) = packed 1 known acked (pack flag)
offer_number pack known acked (Offer.Ctx mask) = packed 2 known acked mask.bits

-- the number of a slot; a mark has acknowledged everyone, which is 2047, and no payload
abbrev pub slot_number : {P : Type 0} → (P → ℕ) → Slot P → ℕ
slot_number pack (Slot.Mark mark) = packed 0 mark.known.count 2047 0
slot_number pack (Slot.Given given) = offer_number pack given.known.count given.acked.count given.offer

-- the word of a slot
abbrev pub slot_word : {P : Type 0} → (P → ℕ) → Slot P → ℕ
slot_word pack slot = first_word (slot_number pack slot)

-- the upper half of what a slot offers; a mark offers nothing
abbrev pub slot_half : {P : Type 0} → (P → ℕ) → Slot P → ℕ
slot_half pack slot = upper_half (slot_number pack slot)

-- the wing of a slot, its second word; a mark has none
abbrev pub slot_wing : {P : Type 0} → (P → ℕ) → Slot P → ℕ
slot_wing pack (Slot.Mark mark) = 0
slot_wing pack (Slot.Given given) = wing_word (slot_half pack (Slot.Given given))

-- the place of the word that an event sets after a history
abbrev pub place_of : {P : Type 0} → History P → Event P → Place
place_of h (Event.Fail rank) = Place.List (length (failures h))
place_of h (Event.Settle c k r given) = Place.Slot c k r
place_of h (Event.Mark c k r mark) = Place.Slot c k r
place_of h (Event.Arrive c k r) = Place.Arrival c k r
place_of h (Event.Revoke c) = Place.Revoked c
place_of h (Event.Spawn j c k) = Place.Comm j

-- the word that an event sets
abbrev pub word_of : {P : Type 0} → (P → ℕ) → Event P → ℕ
word_of pack (Event.Fail rank) = rank + 1
word_of pack (Event.Settle c k r given) = slot_word pack (Slot.Given given)
word_of pack (Event.Mark c k r mark) = slot_word pack (Slot.Mark mark)
word_of pack (Event.Arrive c k r) = 1
word_of pack (Event.Revoke c) = 1
word_of pack (Event.Spawn j c k) = 1 + c * 4096 + k

-- the upper half of what an event's word says, which stands in the wing of a contribution
abbrev pub half_of : {P : Type 0} → (P → ℕ) → Event P → ℕ
half_of pack (Event.Fail rank) = 0
half_of pack (Event.Settle c k r given) = slot_half pack (Slot.Given given)
half_of pack (Event.Mark c k r mark) = 0
half_of pack (Event.Arrive c k r) = 0
half_of pack (Event.Revoke c) = 0
half_of pack (Event.Spawn j c k) = 0

-- the word at a place after a history: that of what stands there, and 0 where nothing does
abbrev pub word_at : {P : Type 0} → (P → ℕ) → History P → Place → ℕ
word_at pack h (Place.List i) = option_map_or (λ rank. rank + 1) (slice_get (failures h) i) 0
word_at pack h (Place.Comm zero) = 0
word_at pack h (Place.Comm (suc j)) = option_map_or (λ made. 1 + made.0 * 4096 + made.1) (slice_get (spawns h) j) 0
word_at pack h (Place.Revoked c) = if is_revoked h c then 1 else 0
word_at pack h (Place.Slot c k r) = option_map_or (slot_word pack) (slot h c k r) 0
word_at pack h (Place.Arrival c k r) = if has_arrived h c k r then 1 else 0
