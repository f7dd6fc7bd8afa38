-- Where the word of each place, of each block, and of each wing stands in the row of shared words.
use Rattle.std.specs.Prelude.{ℕ, ◌+◌, ◌*◌}
use Rattle.ulfm_model.specs.declared.{block.Block.{Block}, block.Wing.{Wing}, limits.Limits.{Limits}, place.Place.{Place}}
use Rattle.ulfm_model.specs.declared.{place.Place.TheVariants.{List as ListAt, Comm as CommAt, Revoked as RevokedAt, Slot as SlotAt, Arrival as ArrivalAt}}
use Rattle.ulfm_words.specs.Rows.{side_key}

-- a rank's number among the ranks of all rounds of all communicators
abbrev pub cell_offset : Limits → ℕ → ℕ → ℕ → ℕ
cell_offset limits c k r = (c * limits.rounds + k) * limits.ranks + r

-- how many of these there are
abbrev pub cell_count : Limits → ℕ
cell_count limits = limits.comms * limits.rounds * limits.ranks

-- where the slots begin, each with its wing behind it
abbrev pub slots_from : Limits → ℕ
slots_from limits = limits.ranks + 2 * limits.comms

-- where the arrivals begin
abbrev pub arrivals_from : Limits → ℕ
arrivals_from limits = slots_from limits + 2 * cell_count limits

-- where the blocks begin, each with its wing behind it
abbrev pub blocks_from : Limits → ℕ
blocks_from limits = arrivals_from limits + cell_count limits

-- The lists come first, then the communicators, the revocations, all slots and all arrivals. The slots and the arrivals go
-- communicator by communicator, round by round and rank by rank. So the slots of all rounds stand side by side, and several
-- rounds share a cache line, as a slot and its wing do.
abbrev pub place_offset : Limits → Place → ℕ
place_offset limits (ListAt i) = i
place_offset limits (CommAt j) = limits.ranks + j
place_offset limits (RevokedAt c) = limits.ranks + limits.comms + c
place_offset limits (SlotAt c k r) = slots_from limits + 2 * cell_offset limits c k r
place_offset limits (ArrivalAt c k r) = arrivals_from limits + cell_offset limits c k r

-- The blocks come behind all places, communicator by communicator and round by round. So both blocks of a round stand side by
-- side, and so do those of all rounds.
abbrev pub block_offset : Limits → Block → ℕ
block_offset limits b = blocks_from limits + 4 * (b.comm * limits.rounds + b.round) + 2 * side_key b.side

-- a wing stands behind its slot or its block
abbrev pub wing_offset : Limits → Wing → ℕ
wing_offset limits (Wing.Slot c k r) = place_offset limits (SlotAt c k r) + 1
wing_offset limits (Wing.Block b) = block_offset limits b + 1

-- how many words the row has: one for each place, one for each slot's wing, and four for the blocks of each round of each
-- communicator and their wings
abbrev pub row_length : Limits → ℕ
row_length limits = blocks_from limits + 4 * (limits.rounds * limits.comms)
