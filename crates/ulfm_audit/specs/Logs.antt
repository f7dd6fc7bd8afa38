-- A stored log as bytes: its head, and the entries behind it.
use Rattle.std.specs.Prelude.{◌≡◌, ◌≢◌, ℕ, ◌/◌, ◌*◌, List, [], ◌∷◌, ◌++◌, codes, length, take, Option, MatchOption}
use Rattle.std.specs.List.{cons_option}
use Rattle.std.specs.Simd.{first_chunks}
use Rattle.ulfm_laws.specs.declared.flag_and.FlagAnd.{FlagAnd}
use Rattle.ulfm_model.specs.declared.{event.Entry.{Entry}, limits.Limits.{Limits}}
use Rattle.ulfm_model.specs.Words.{MayOpen}
use Rattle.ulfm_replica.specs.Wire.{IsReadAs, entry_bytes, two}

-- the head of a log of a world of these limits
abbrev pub head_bytes : Limits → List ℕ
head_bytes limits =
    codes "ulfm log" ++ two 1 (two limits.ranks (two limits.comms (two limits.rounds (0 ∷ 0 ∷ 0 ∷ 0 ∷ 0 ∷ 0 ∷ 0 ∷ 0 ∷ []))))

-- these bytes are the head of a log of a world of these limits, which may be opened
abbrev pub IsHeadOf : List ℕ → Limits → Type 0
IsHeadOf bytes limits = MayOpen limits × (bytes ≡ head_bytes limits)

-- the bits of a flag, which are what it is packed into
abbrev pub flag_bits : FlagAnd → ℕ
flag_bits flag = flag.bits

-- the whole pieces of 24 bytes, in order
abbrev pub pieces_of : List ℕ → List (List ℕ)
pieces_of bytes = first_chunks 24 (length bytes / 24) bytes

-- and their bytes
abbrev pub whole_of : List ℕ → List ℕ
whole_of bytes = take (length bytes / 24 * 24) bytes

-- the entry of a piece, or none where it is no entry's bytes
abbrev pub IsPiece : List ℕ → Option (Entry FlagAnd) → Type 0
IsPiece piece read = MatchOption read ((entry : Entry FlagAnd) → piece ≢ entry_bytes flag_bits entry) (IsReadAs flag_bits piece)

-- the entries of pieces, in order; a piece that is no entry's bytes has none
abbrev pub IsLogOf : List (List ℕ) → List (Entry FlagAnd) → Type 0
IsLogOf [] log = log ≡ []
IsLogOf (piece ∷ pieces) log =
    (read : Option (Entry FlagAnd)) × (rest : List (Entry FlagAnd)) × IsPiece piece read × IsLogOf pieces rest × (log ≡ cons_option read rest)
