-- An entry as bytes: its numbers, and where each stands.
use Rattle.std.specs.Prelude.{◌≡◌, ℕ, ◌/◌, ◌%◌, List, ◌∷◌}
use Rattle.std.specs.Int.{to_le_bytes, w64}
use Rattle.ulfm_model.specs.declared.{contribution.Offer.{Offer}, event.Caller.{Caller}, event.Entry.{Entry}, event.Event.{Event}}
use Rattle.ulfm_replica.specs.declared.wire.Fields.{Fields}

-- whether a caller is a rank
abbrev pub named_of : Caller → ℕ
named_of Caller.Outside = 0
named_of (Caller.Rank r) = 1

-- and which
abbrev pub number_of : Caller → ℕ
number_of Caller.Outside = 0
number_of (Caller.Rank r) = r

-- the numbers of a kind, in a caller's name: all others are 0
abbrev pub blank : ℕ → Caller → Fields
blank kind by = record { kind = kind; named = named_of by; by = number_of by; comm = 0; round = 0; rank = 0; known = 0; acked = 0; payload = 0 }

-- the kind of a contribution: that of an agree, or of a shrink
abbrev pub kind_of : {P : Type 0} → Offer P → ℕ
kind_of (Offer.Flag flag) = 2
kind_of (Offer.Ctx mask) = 3

-- and its payload
abbrev pub payload_of : {P : Type 0} → (P → ℕ) → Offer P → ℕ
payload_of pack (Offer.Flag flag) = pack flag
payload_of pack (Offer.Ctx mask) = mask.bits

-- the numbers of an event, in a caller's name
abbrev pub fields_by : {P : Type 0} → (P → ℕ) → Caller → Event P → Fields
fields_by pack by (Event.Fail r) = record (blank 1 by) { rank = r }
fields_by pack by (Event.Settle c k r given) =
    record (blank (kind_of given.offer) by) {
      comm = c;
      round = k;
      rank = r;
      known = given.known.count;
      acked = given.acked.count;
      payload = payload_of pack given.offer;
    }
fields_by pack by (Event.Mark c k r mark) = record (blank 4 by) { comm = c; round = k; rank = r; known = mark.known.count }
fields_by pack by (Event.Arrive c k r) = record (blank 5 by) { comm = c; round = k; rank = r }
fields_by pack by (Event.Revoke c) = record (blank 6 by) { comm = c }
fields_by pack by (Event.Spawn j c k) = record (blank 7 by) { comm = j; round = k; rank = c }

-- the numbers of an entry
abbrev pub fields_of : {P : Type 0} → (P → ℕ) → Entry P → Fields
fields_of pack e = fields_by pack e.by e.event

-- two bytes, the low one first, and what stands behind them
abbrev pub two : ℕ → List ℕ → List ℕ
two n bytes = n % 256 ∷ n / 256 ∷ bytes

-- the bytes of such numbers
abbrev pub bytes_from : Fields → List ℕ
bytes_from f =
    f.kind ∷ f.named ∷ two f.by (two f.comm (two f.round (two f.rank (two f.known (two f.acked (two 0 (to_le_bytes w64 f.payload)))))))

-- the bytes of an entry
abbrev pub entry_bytes : {P : Type 0} → (P → ℕ) → Entry P → List ℕ
entry_bytes pack e = bytes_from (fields_of pack e)

-- these are the bytes of an entry, and of no other
abbrev pub IsReadAs : {P : Type 0} → (P → ℕ) → List ℕ → Entry P → Type 0
IsReadAs {P} pack bytes e = (bytes ≡ entry_bytes pack e) × ((other : Entry P) → bytes ≡ entry_bytes pack other → other ≡ e)
